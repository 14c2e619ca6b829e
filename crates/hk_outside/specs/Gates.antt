-- What a gate names.
use Rattle.std.specs.Prelude.{◌≡◌, ℕ, Bool, true, false, List, slice_index_or}

-- whether the place of a seat is set
abbrev pub is_set : List Bool → ℕ → Bool
is_set table seat = slice_index_or table seat false

-- no place is cleared
abbrev pub KeepsSet : List Bool → List Bool → Type 0
KeepsSet old new = (seat : ℕ) → is_set old seat ≡ true → is_set new seat ≡ true
