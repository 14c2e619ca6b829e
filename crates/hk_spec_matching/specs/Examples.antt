-- Small journals for the worked examples.
use Rattle.std.specs.Prelude.{ℕ, List, [], ◌∷◌}
use Rattle.hk_spec_matching.specs.Catalogue.{Song, Limits, Add, Withdraw, Journal}

-- two songs, and three words of all songs
abbrev pub SMALL : Limits
SMALL = record { songs = 2; positions = 3; versions = 9 }

-- a song of these words, with at most three errors
abbrev pub song : List ℕ → Song
song words = record { words = words; limit = 3 }

-- the same id twice in one batch
abbrev pub TWICE : Journal
TWICE = (Add 7 (song (5 ∷ [])) ∷ Add 7 (song (6 ∷ [])) ∷ []) ∷ []

-- a song, then two more of which one has no room, then a withdrawal of the first and of one that isn't there
abbrev pub CROWDED : Journal
CROWDED = (Add 7 (song (5 ∷ [])) ∷ []) ∷ (Add 3 (song (1 ∷ 2 ∷ [])) ∷ Add 4 (song (6 ∷ [])) ∷ []) ∷ (Withdraw 7 ∷ Withdraw 9 ∷ []) ∷ []
