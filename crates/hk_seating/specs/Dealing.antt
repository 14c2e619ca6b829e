-- Things dealt to rows by their numbers.
use Rattle.std.specs.Prelude.{ℕ, ◌+◌, ◌%◌, List, [], ◌∷◌, ◌++◌, replicate, slice_index_or, slice_set}

-- these rows, with one more thing at the end of row w
abbrev pub with_last : {A : Type 0} → List (List A) → ℕ → A → List (List A)
with_last rows w x = slice_set rows w (slice_index_or rows w [] ++ x ∷ [])

-- So many rows of these things, the first of which has number n: thing n is in row n mod so many. In each row they stand from the
-- greatest number down, so that the least is the last.
abbrev pub dealt : {A : Type 0} → ℕ → ℕ → List A → List (List A)
dealt rows n [] = replicate rows []
dealt rows n (x ∷ xs) = with_last (dealt rows (n + 1) xs) (n % rows) x
