-- What a look finds, one occurrence of a word after another.
use Rattle.std.specs.Prelude.{◌≡◌, ℕ, ◌+◌, ◌-◌, ◌==◌, Bool, ◌&&◌, nat_le, if◌then◌else◌, List, [], length, flat_map, filter_map, sum_by, count_by, slice_index_or, Option, None}
use Rattle.std.specs.List.{enumerate_from}
use Rattle.std.specs.Option.{option_map_or}
use Rattle.hk_base.specs.declared.plain.Print.{Print}
use Rattle.hk_base.specs.declared.plain.Match.{Match}
use Rattle.hk_spec_sound.specs.Windows.{window}
use Rattle.hk_spec_matching.specs.Catalogue.{Song, Songs}
use Rattle.hk_spec_matching.specs.Matching.{Query}
use Rattle.hk_spec_matching.specs.Occurrences.{occurrences_of}
use Rattle.hk_spec_matching.specs.Buckets.{bucket_of}
use Rattle.hk_spec_matching.specs.Cost.{all_words, looked_up}
use Rattle.hk_table.specs.Store.{Store, song_at}
use Rattle.hk_table.specs.declared.place.Place.{Place}
use Rattle.hk_catalogue.specs.Shelves.{entry_of, song_of}
use Rattle.hk_probe.specs.Comparison.{first_match_at}

-- the song in a slot, with its id
abbrev pub entry_at : Store → ℕ → ℕ × Song
entry_at store slot = option_map_or entry_of (song_at store slot) (0, song_of [])

-- A print's place in the block and a position in a song tell where the block begins there. It fits where it begins in the song
-- and ends in it.
abbrev pub fits : Query → ℕ → ℕ × Song → ℕ → Bool
fits query j song position = nat_le j position && nat_le (position - j + length query.prints) (length song.1.words)

-- the match at the start that puts print j beside a position, where print j is the first that hits there
unfoldable pub found : Query → ℕ → ℕ × Song → ℕ → Option Match
found query j song position =
    if fits query j song position
    then first_match_at query j song (position - j, window (length query.prints) 1 song.1.words (position - j)) else None

-- the same at a place of the table
abbrev pub found_at : Query → Store → ℕ → Place → Option Match
found_at query store j place = found query j (entry_at store place.slot) place.pos

-- what a word gives that is looked up for print j
unfoldable pub found_of : Query → Songs → ℕ → ℕ → List Match
found_of query songs j word = filter_map (λ o. found query j o.song o.position) (occurrences_of word songs)

-- what a print gives
unfoldable pub found_by : Query → Songs → ℕ × Print → List Match
found_by query songs print = flat_map (found_of query songs print.0) (looked_up query print.1)

-- what all prints give
unfoldable pub found_in : Query → Songs → List Match
found_in query songs = flat_map (found_by query songs) (enumerate_from 0 query.prints)

-- These lists have the same matches, each as often: whatever is counted, both have as much of it.
abbrev pub HaveSame : List Match → List Match → Type 0
HaveSame xs ys = (f : Match → ℕ) → sum_by f xs ≡ sum_by f ys

-- print j with its number
abbrev pub numbered : ℕ → List Print → ℕ × Print
numbered j prints = (j, slice_index_or prints j (record { word = 0; mask = 0 }))

-- how many nodes stand in the bucket of a word
abbrev pub nodes_of : ℕ → Songs → ℕ → ℕ
nodes_of positions songs word = count_by (λ x. bucket_of positions x == bucket_of positions word) (all_words songs)

-- how many stand in the buckets of the words that are looked up for a print
abbrev pub nodes_by : ℕ → Query → Songs → Print → ℕ
nodes_by positions query songs print = sum_by (nodes_of positions songs) (looked_up query print)
