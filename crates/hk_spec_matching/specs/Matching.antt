-- A block against each start of each song.
use Rattle.std.specs.Prelude.{ℕ, Bool, ◌&&◌, ◌==◌, nat_le, if◌then◌else◌, bit_and, bit_xor, count_ones, List, length, map, zip, sum_by, flat_map, filter_map, Option, Some, None}
use Rattle.std.specs.List.{list_any, enumerate_from}
use Rattle.hk_base.specs.declared.plain.Print.{Print}
use Rattle.hk_base.specs.declared.plain.Match.{Match}
use Rattle.hk_spec_sound.specs.Windows.{windows}
use Rattle.hk_spec_matching.specs.Catalogue.{Song, Songs}

-- what is looked up
pub record Query : Type 0 where
  pub prints : List Print

-- the bits of a print's word that may be flipped when it is looked up, as the ones of a mask
pub record Flips : Type 0 where
  pub mask : ℕ

-- the flips of one of a query's prints
abbrev pub flips_of : Query → Print → Flips
flips_of query print = record { mask = print.mask }

-- whether all of these bits may be flipped
abbrev pub may_flip : Flips → ℕ → Bool
may_flip flips bits = bit_and bits flips.mask == bits

-- the bits in which a print and a word differ
abbrev pub difference : Print × ℕ → ℕ
difference p = bit_xor p.0.word p.1

-- a hit: a print and a word that differ in no bits but such as may be flipped
abbrev pub is_hit : Query → Print × ℕ → Bool
is_hit query p = may_flip (flips_of query p.0) (difference p)

-- how many bits differ between the words of two lists
abbrev pub differing_bits : List ℕ → List ℕ → ℕ
differing_bits xs ys = sum_by (λ p. count_ones (bit_xor p.0 p.1)) (zip xs ys)

abbrev pub words_of : List Print → List ℕ
words_of prints = map (λ print. print.word) prints

-- how many bits differ between the prints and the words
abbrev pub errors_of : List Print → List ℕ → ℕ
errors_of prints words = differing_bits (words_of prints) words

-- the match at a start of a song, where some print is a hit and the errors are within the song's limit
unfoldable pub match_at : Query → ℕ × Song → ℕ × List ℕ → Option Match
match_at query song start =
    let errors = errors_of query.prints start.1 in
    if list_any (is_hit query) (zip query.prints start.1) && nat_le errors song.1.limit
    then Some (record { id = song.0; start = start.0; errors = errors }) else None

-- a song's matches: a start is each place from which on the song has at least as many words as there are prints
unfoldable pub matches_of_song : Query → ℕ × Song → List Match
matches_of_song query song =
    filter_map (match_at query song) (enumerate_from 0 (windows (length query.prints) 1 song.1.words))

-- the matches in all songs, by id and then by start
unfoldable pub matches : Query → Songs → List Match
matches query songs = flat_map (matches_of_song query) songs

-- the errors that a song's match may have where no other limit is given: 0.35 of the bits of 256 words, rounded down
abbrev pub MOST_ERRORS : ℕ
MOST_ERRORS = 2867
