-- Room for the matches of a look, as contracts see it.
use Rattle.std.specs.Prelude.{ℕ, ◌==◌, Bool, ◌&&◌, ◌||◌, nat_lt, List, [], ◌∷◌, ◌++◌}
use Rattle.std.specs.List.Sorted.{IsSortedBy}
use Rattle.hk_base.specs.declared.plain.Match.{Match}

-- the matches that were found, and how many there is room for
pub record Room : Type 0 where
  pub matches : List Match
  pub room : ℕ

-- by id, then by start, then by errors
abbrev pub is_before : Match → Match → Bool
is_before a b = nat_lt a.id b.id || (a.id == b.id) && (nat_lt a.start b.start || (a.start == b.start) && nat_lt a.errors b.errors)

-- no match comes before the one that stands in front of it
abbrev pub AreSorted : List Match → Type 0
AreSorted matches = IsSortedBy is_before matches

abbrev pub with_match : Room → Match → Room
with_match room found = record room { matches = room.matches ++ found ∷ [] }
