-- From the bytes that are left to the place where a text goes wrong.
use Rattle.std.proofs.Common.{◌≡◌, ℕ, ◌+◌, ◌-◌, ◌<◌, ◌≤◌, List, [], ◌∷◌, ◌++◌, length, take, drop, refl, sym, ◌∙◌, ap, subst, append_assoc, append-nil, arith, length-append}
use Rattle.std.proofs.lemmas.List.{take-append-drop, take-append-le}
use Rattle.std.proofs.Math.Seq.{take-append-add}
use Rattle.hk_report.specs.Reports.{IsReport, Begins, IsBadPlace}
use Rattle.hk_report.specs.LineReading.{Stops, StopsBefore}

-- what begins a text of a kind, its fronts begin too
front_begins : (K : List ℕ → Type 0) (good left : List ℕ) (n : ℕ) → n ≤ length good → Begins K good → Begins K (take n (good ++ left))
front_begins K good left n h b =
    let whole : good ++ b.0 ≡ take n good ++ (drop n good ++ b.0) = ap (λ t. t ++ b.0) (sym (take-append-drop n good)) ∙ append_assoc (take n good) (drop n good) b.0 in
    (drop n good ++ b.0, subst (λ t. K (t ++ (drop n good ++ b.0))) (sym (take-append-le n good left h)) (subst K whole b.1))

refused_next : (K : List ℕ → Type 0) (good left : List ℕ) → Stops K good left → length good < length (good ++ left) → Begins K (take (length good + 1) (good ++ left)) → ⊥
refused_next K good [] s long b = let same : length (good ++ []) ≡ length good = ap length (append-nil good) in omega arith
refused_next K good (c ∷ left) s long b =
    let front : take (length good + 1) (good ++ c ∷ left) ≡ good ++ c ∷ [] = take-append-add good (c ∷ left) 1 in
    s.refused (c ∷ b.0) (b.0, refl) (subst K (append_assoc good (c ∷ []) b.0) (subst (λ t. K (t ++ b.0)) front b.1))

unfinished : (K : List ℕ → Type 0) (good left more : List ℕ) → Stops K good left → length good ≡ length (good ++ left) → K (good ++ more) → (more : List ℕ) × (0 < length more) × K (good ++ left ++ more)
unfinished K good [] [] s short k = absurd (s.refused [] refl k)
unfinished K good [] (c ∷ more) s short k = (c ∷ more, omega arith, subst (λ t. K (t ++ c ∷ more)) (sym (append-nil good)) k)
unfinished K good (c ∷ left) more s short k = let long : length (good ++ c ∷ left) ≡ length good + length (c ∷ left) = length-append good (c ∷ left) in absurd (omega arith)

bad_place_of : (good left : List ℕ) → Stops IsReport good left → IsBadPlace (good ++ left) (length good)
bad_place_of good left s = record {
  within = omega (arith, length-append good left);
  good = λ q h. front_begins IsReport good left (q + 1) (omega arith) s.begins;
  bad = refused_next IsReport good left s;
  unfinished = λ short. unfinished IsReport good left s.begins.0 s short s.begins.1;
}

-- the place of the first byte that is left, or the text's length
pub bad_place : (text left : List ℕ) (p : ℕ) → StopsBefore IsReport text left → length text - length left ≡ p → IsBadPlace text p
bad_place text left p s e =
    let long : length text ≡ length s.0 + length left = ap length s.1 ∙ length-append s.0 left in
    let place : length s.0 ≡ p = omega arith in
    subst (IsBadPlace text) place (subst (λ t. IsBadPlace t (length s.0)) (sym s.1) (bad_place_of s.0 left s.2))
