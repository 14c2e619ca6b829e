-- Numbers that stand once in a list, with one more at its end and with one less.
use Rattle.std.proofs.Common.{◌≡◌, ◌≢◌, ℕ, ◌+◌, ◌<◌, ◌≤◌, List, [], ◌∷◌, ◌++◌, length, get_or, refl, sym, ◌∙◌, arith, inl, inr}
use Rattle.std.specs.List.{All}
use Rattle.std.proofs.lemmas.Bool.{cases_lt}
use Rattle.std.proofs.lemmas.List.{get_or_append_left, get_or_push, length_push, get_or_default}
use Rattle.hk_catalogue.specs.CatalogueInside.{AreDistinct}

front_at : (xs : List ℕ) (x i : ℕ) → i < length xs → get_or (xs ++ x ∷ []) i 0 ≡ get_or xs i 0
front_at xs x i low = get_or_append_left xs (x ∷ []) 0 i low

-- the numbers in front of the last one differ from it
pub others_differ : (xs : List ℕ) (x : ℕ) → AreDistinct (xs ++ x ∷ []) → All (λ s. s ≢ x) xs
others_differ xs x distinct i d low = λ same.
    let size : length (xs ++ x ∷ []) ≡ length xs + 1 = length_push xs x in
    let apart : get_or (xs ++ x ∷ []) i 0 ≢ get_or (xs ++ x ∷ []) (length xs) 0 = distinct i (length xs) (λ at. let no : ⊥ = omega (arith, low, at) in no) (omega (arith, low, size)) (omega (arith, size)) in
    apart (front_at xs x i low ∙ get_or_default xs i 0 d low ∙ same ∙ sym (get_or_push xs x 0 (length xs) refl))

pub distinct-front : (xs : List ℕ) (x : ℕ) → AreDistinct (xs ++ x ∷ []) → AreDistinct xs
distinct-front xs x distinct i j other low_i low_j = λ same.
    let size : length (xs ++ x ∷ []) ≡ length xs + 1 = length_push xs x in
    distinct i j other (omega (arith, low_i, size)) (omega (arith, low_j, size)) (front_at xs x i low_i ∙ same ∙ sym (front_at xs x j low_j))

pub distinct-push : (xs : List ℕ) (x : ℕ) → AreDistinct xs → All (λ s. s ≢ x) xs → AreDistinct (xs ++ x ∷ [])
distinct-push xs x distinct differ i j other low_i low_j =
    let size : length (xs ++ x ∷ []) ≡ length xs + 1 = length_push xs x in
    let last : (k : ℕ) → length xs ≤ k → k < length (xs ++ x ∷ []) → get_or (xs ++ x ∷ []) k 0 ≡ x =
    λ k high low. get_or_push xs x 0 k (omega (arith, high, low, size)) in
    elim (cases_lt i (length xs)) [
      | inl in_i ↦ elim (cases_lt j (length xs)) [
        | inl in_j ↦ λ same. distinct i j other in_i in_j (sym (front_at xs x i in_i) ∙ same ∙ front_at xs x j in_j)
        | inr at_j ↦ λ same. differ i 0 in_i (sym (front_at xs x i in_i) ∙ same ∙ last j at_j low_j)
      ]
      | inr at_i ↦ elim (cases_lt j (length xs)) [
        | inl in_j ↦ λ same. differ j 0 in_j (sym (front_at xs x j in_j) ∙ sym same ∙ last i at_i low_i)
        | inr at_j ↦ absurd (other (omega (arith, at_i, at_j, low_i, low_j, size)))
      ]
    ]
