-- Fronts of a text.
use Rattle.std.proofs.Common.{◌≡◌, ℕ, suc, ◌+◌, ◌-◌, ◌<◌, List, ◌∷◌, ◌++◌, take, drop, get_or, length, sym, ◌∙◌, ap, arith}
use Rattle.std.proofs.lemmas.List.{take_rest, take-append-drop}
use Rattle.std.proofs.Math.Seq.{take-add, drop-cons}

-- the first i items, and n more of those from i on
pub front_grows : (xs : List ℕ) (i n : ℕ) → take i xs ++ take n (take (length xs - i) (drop i xs)) ≡ take (i + n) xs
front_grows xs i n = ap (λ ys. take i xs ++ take n ys) (take_rest xs i) ∙ sym (take-add i n xs)

-- a list by its item at a place
pub at_place : (xs : List ℕ) (i : ℕ) → i < length xs → xs ≡ take i xs ++ get_or xs i 0 ∷ drop (i + 1) xs
at_place xs i h =
    let next : suc i ≡ i + 1 = omega arith in
    sym (take-append-drop i xs) ∙ ap (λ t. take i xs ++ t) (drop-cons xs i 0 h ∙ ap (λ k. get_or xs i 0 ∷ drop k xs) next)
