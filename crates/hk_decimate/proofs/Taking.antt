-- A sample more makes the mean whole, or not yet.
use Rattle.std.proofs.Common.{◌≡◌, ℕ, ◌+◌, ◌-◌, ◌*◌, ◌<◌, ◌≤◌, List, [], ◌∷◌, ◌++◌, length, map, drop, ap, sym, ◌∙◌, arith, ℤ}
use Rattle.std.proofs.lemmas.List.{map_push}
use Rattle.hk_spec_sound.specs.Windows.{windows, begun}
use Rattle.hk_spec_sound.specs.Samples.{decimated, weighted_mean}
use Rattle.hk_spec_sound.proofs.BegunWindows.{windows-whole, windows-begun}

-- the mean is whole: one sample more, and the next has begun with the last of these
pub taken_whole : (factor : ℕ) (samples window : List ℤ) (x : ℤ) → 1 ≤ factor → window ≡ begun (2 * factor - 1) factor samples
    → length window + 1 ≡ 2 * factor - 1
    → (decimated factor (samples ++ x ∷ []) ≡ decimated factor samples ++ weighted_mean factor (window ++ x ∷ []) ∷ [])
    × (drop factor (window ++ x ∷ []) ≡ begun (2 * factor - 1) factor (samples ++ x ∷ []))
unfolding decimated
taken_whole factor samples window x some is whole =
    let size = 2 * factor - 1 in
    let law = windows-whole size factor samples x (omega arith) (omega arith) (omega (arith, ap length is, whole)) in (
      ap (map (weighted_mean factor)) (law.0 ∙ ap (λ w. windows size factor samples ++ (w ++ x ∷ []) ∷ []) (sym is))
          ∙ map_push (weighted_mean factor) (windows size factor samples) (window ++ x ∷ []),
      sym (law.1 ∙ ap (λ w. drop factor (w ++ x ∷ [])) (sym is)),
    )

-- it is not whole: no sample, and this one belongs to it
pub taken_part : (factor : ℕ) (samples window : List ℤ) (x : ℤ) → 1 ≤ factor → window ≡ begun (2 * factor - 1) factor samples
    → length window + 1 < 2 * factor - 1
    → (decimated factor (samples ++ x ∷ []) ≡ decimated factor samples)
    × (window ++ x ∷ [] ≡ begun (2 * factor - 1) factor (samples ++ x ∷ []))
unfolding decimated
taken_part factor samples window x some is part =
    let size = 2 * factor - 1 in
    let law = windows-begun size factor samples x (omega arith) (omega arith) (omega (arith, ap length is, part)) in
    (ap (map (weighted_mean factor)) law.0, sym (law.1 ∙ ap (λ w. w ++ x ∷ []) (sym is)))
