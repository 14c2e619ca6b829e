-- A list in groups of one size.
use Rattle.std.specs.Prelude.{ℕ, ◌*◌, ◌/◌, List, length, drop}

-- what is left behind the whole groups
abbrev pub rest_of : {A : Type 0} → ℕ → List A → List A
rest_of size xs = drop (length xs / size * size) xs
