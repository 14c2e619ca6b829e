-- The match at a start, by the words from there on.
use Rattle.std.specs.Prelude.{◌≡◌, ℕ, ◌==◌, nat_le, List, zip, Option, Some, None, if◌then◌else◌}
use Rattle.std.specs.List.{position_or_len}
use Rattle.hk_base.specs.declared.plain.Print.{Print}
use Rattle.hk_base.specs.declared.plain.Match.{Match}
use Rattle.hk_spec_matching.specs.Catalogue.{Song}
use Rattle.hk_spec_matching.specs.Matching.{Query, match_at, flips_of, is_hit, errors_of, MOST_ERRORS}
use Rattle.hk_spec_matching.specs.Cost.{subsets}
use Rattle.hk_catalogue.specs.Shelves.{song_of}
use Rattle.hk_probe.specs.declared.comparison.Block.{Block}

-- the query that a block is
abbrev pub query_in : Block → Query
query_in block = record { prints = block.prints }

-- the bits that are flipped together where one of a query's prints is looked up
abbrev pub subsets_for : Query → Print → List ℕ
subsets_for query print = subsets (flips_of query print)

-- the first print that hits, and the number of prints where none does
abbrev pub first_hit : Query → List ℕ → ℕ
first_hit query words = position_or_len (is_hit query) (zip query.prints words)

-- the match at a start of a song, where the errors are within the limit
abbrev pub match_within : List Print → ℕ → ℕ → List ℕ → Option Match
match_within prints id start words =
    let errors = errors_of prints words in
    if nat_le errors MOST_ERRORS then Some (record { id = id; start = start; errors = errors }) else None

-- the match at a start of a song, where this print is the first that hits there
unfoldable pub first_match_at : Query → ℕ → ℕ × Song → ℕ × List ℕ → Option Match
first_match_at query j song start = if first_hit query start.1 == j then match_at query song start else None

-- the match of a query at a start of a song, whose words from there on are these. What stands elsewhere in the song is no matter.
abbrev pub IsMatchAt : Query → ℕ → ℕ → List ℕ → Option Match → Type 0
IsMatchAt query id start words found = (whole : List ℕ) → found ≡ match_at query (id, song_of whole) (start, words)

-- the same, where this print is the first that hits
abbrev pub IsFirstMatchAt : Query → ℕ → ℕ → ℕ → List ℕ → Option Match → Type 0
IsFirstMatchAt query j id start words found =
    (whole : List ℕ) → found ≡ first_match_at query j (id, song_of whole) (start, words)
