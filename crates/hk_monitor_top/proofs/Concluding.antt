-- The ends that are told are those of the run, and no station is ahead where none is found.
use Rattle.std.proofs.Common.{◌≡◌, ◌∙◌, ◌+◌, ◌≤◌, ℕ, zero, suc, nat_lt, Bool, true, false, cond, List, [], ◌∷◌, length, map, find, Option, Some, None, inl, inr, refl, ap, ap₂, subst, arith}
use Rattle.std.specs.Prelude.{slice_get}
use Rattle.std.specs.List.{enumerate_from}
use Rattle.std.proofs.lemmas.Bool.Decides.{leb_tells}
use Rattle.std.proofs.lemmas.Option.{slice_get_within}
use Rattle.hk_spec_monitor.proofs.Legal.{some_of}
use Rattle.hk_spec_monitor.specs.Looks.{last_version}
use Rattle.hk_spec_monitor.specs.Run.{Heard}
use Rattle.hk_summary.specs.declared.ends.StationEnd.{StationEnd}
use Rattle.hk_summary.specs.Ends.{told}

pub ends_are : (from : ℕ) (ends : List StationEnd) (heard : List Heard) → length ends ≡ length heard
    → ((n : ℕ) (end : StationEnd) (h : Heard) → slice_get ends n ≡ Some end → slice_get heard n ≡ Some h → end ≡ told (from + n, h)) → ends ≡ map told (enumerate_from from heard)
ends_are from [] [] as_many each = refl
ends_are from [] (h ∷ hs) as_many each = absurd (omega (arith, as_many))
ends_are from (e ∷ es) [] as_many each = absurd (omega (arith, as_many))
ends_are from (e ∷ es) (h ∷ hs) as_many each =
    let first : from + 0 ≡ from = omega arith in
    ap₂ (λ (x : StationEnd) (xs : List StationEnd). x ∷ xs) (each 0 e h refl refl ∙ ap (λ (k : ℕ). told (k, h)) first)
    (ends_are (from + 1) es hs (omega (arith, as_many)) (λ n end h' at_end at_h.
    let next : from + suc n ≡ from + 1 + n = omega arith in
    each (suc n) end h' at_end at_h ∙ ap (λ (k : ℕ). told (k, h')) next))

not_less : (a b : ℕ) → nat_lt a b ≡ false → b ≤ a
not_less a b is = elim (leb_tells (suc a) b) [
  | inl less ↦ cc (is, less.0)
  | inr more ↦ omega (arith, more.1)
]

pub none_ahead : (limit from : ℕ) (heard : List Heard) → find (λ p. nat_lt limit p.1) (enumerate_from from (map (λ h. last_version h.looks) heard)) ≡ None
    → (n : ℕ) (h : Heard) → slice_get heard n ≡ Some h → last_version h.looks ≤ limit
none_ahead limit from [] none n h at = absurd (omega (arith, slice_get_within [] n h at))
none_ahead limit from (x ∷ xs) none n h at = go (λ rest m at_m. none_ahead limit (from + 1) xs rest m h at_m) (nat_lt limit (last_version x.looks)) refl none n at
  where
    later : Option (ℕ × ℕ)
    later = find (λ p. nat_lt limit p.1) (enumerate_from (from + 1) (map (λ h. last_version h.looks) xs))

    go : (later ≡ None → (m : ℕ) → slice_get xs m ≡ Some h → last_version h.looks ≤ limit) → (b : Bool) → nat_lt limit (last_version x.looks) ≡ b → cond b (Some (from, last_version x.looks)) later ≡ None
        → (n : ℕ) → slice_get (x ∷ xs) n ≡ Some h → last_version h.looks ≤ limit
    go behind true is rest n at = cc
    go behind false is rest zero at = subst (λ (y : Heard). last_version y.looks ≤ limit) (some_of x h at) (not_less limit (last_version x.looks) is)
    go behind false is rest (suc n) at = behind rest n at
