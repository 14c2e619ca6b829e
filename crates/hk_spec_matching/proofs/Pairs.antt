-- Two lists side by side, one pair after another.
use Rattle.std.proofs.Common.{◌≡◌, ℕ, ◌+◌, ◌<◌, List, [], ◌∷◌, ◌++◌, length, take, get_or, zip, ◌∙◌, ap, arith, sum_by}
use Rattle.std.proofs.lemmas.List.{take_more}
use Rattle.std.proofs.lemmas.List.Sums.{sum_by-append}
use Rattle.std.proofs.lemmas.Slice.Zip.{get_or-zip, length-zip}

-- one pair more
pub pairs_more : {A B : Type 0} (xs : List A) (ys : List B) (j : ℕ) (a : A) (b : B) → j < length xs → j < length ys
    → take (j + 1) (zip xs ys) ≡ take j (zip xs ys) ++ (get_or xs j a, get_or ys j b) ∷ []
pairs_more xs ys j a b low high =
    take_more (zip xs ys) j (a, b) (omega (arith, length-zip xs ys))
    ∙ ap (λ pair. take j (zip xs ys) ++ pair ∷ []) (get_or-zip xs ys j (a, b) low high)

-- a sum over one pair more
pub sum_more : {A B : Type 0} (f : A × B → ℕ) (xs : List A) (ys : List B) (j : ℕ) (a : A) (b : B) → j < length xs → j < length ys
    → sum_by f (take (j + 1) (zip xs ys)) ≡ sum_by f (take j (zip xs ys)) + f (get_or xs j a, get_or ys j b)
sum_more f xs ys j a b low high =
    ap (sum_by f) (pairs_more xs ys j a b low high)
    ∙ sum_by-append f (take j (zip xs ys)) ((get_or xs j a, get_or ys j b) ∷ [])
    ∙ omega arith
