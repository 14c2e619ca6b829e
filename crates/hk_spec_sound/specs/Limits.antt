-- The numbers that may be set, each with the values that it may have.
use Rattle.std.specs.Prelude.{ℕ, ◌≤◌, ◌^◌, Bool, ◌&&◌, nat_le, max, List, [], ◌∷◌}

-- from one number to another, both among them
pub record Range : Type 0 where
  pub least : ℕ
  pub most : ℕ

abbrev pub IsInRange : Range → ℕ → Type 0
IsInRange range n = (range.least ≤ n) × (n ≤ range.most)

abbrev pub is_within : Range → ℕ → Bool
is_within range n = nat_le range.least n && nat_le n range.most

-- the channels of sound, and the factors by which it is decimated
abbrev pub CHANNELS : List ℕ
CHANNELS = 1 ∷ 2 ∷ []

abbrev pub FACTORS : List ℕ
FACTORS = 1 ∷ 2 ∷ 4 ∷ 8 ∷ []

-- the greatest of some numbers, 0 where there are none
abbrev pub greatest : List ℕ → ℕ
greatest [] = 0
greatest (n ∷ ns) = max n (greatest ns)

abbrev pub MOST_CHANNELS : ℕ
MOST_CHANNELS = greatest CHANNELS

abbrev pub MOST_FACTOR : ℕ
MOST_FACTOR = greatest FACTORS

-- how many bits of a print may be weak
abbrev pub FLIPS : Range
FLIPS = record { least = 0; most = 10 }

-- the prints from a block to the next, at most those of a block
abbrev pub HOP : Range
HOP = record { least = 1; most = 256 }

-- the stations of a run
abbrev pub STATIONS : Range
STATIONS = record { least = 1; most = 64 }

-- how many songs there may be, how many words of all songs, and how many versions
abbrev pub SONGS : Range
SONGS = record { least = 1; most = 65536 }

abbrev pub POSITIONS : Range
POSITIONS = record { least = 256; most = 2 ^ 24 }

abbrev pub VERSIONS : Range
VERSIONS = record { least = 1; most = 1000000000 }

-- the bytes of a stream, and of an input
abbrev pub BYTES : Range
BYTES = record { least = 1; most = 4000000000000000000 }

-- the seed of an input that is made
abbrev pub SEED : Range
SEED = record { least = 0; most = 2147483647 }
