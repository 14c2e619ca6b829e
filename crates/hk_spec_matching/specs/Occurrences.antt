-- Where words stand in songs.
use Rattle.std.specs.Prelude.{ℕ, ◌==◌, List, map, filter, flat_map}
use Rattle.std.specs.List.{enumerate_from}
use Rattle.hk_spec_matching.specs.Catalogue.{Song, Songs}

-- a word of a song: the song with its id, the word's place in it, from 0, and the word
pub record Occurrence : Type 0 where
  pub song : ℕ × Song
  pub position : ℕ
  pub word : ℕ

-- each word of a song
abbrev pub occurrences_in : ℕ × Song → List Occurrence
occurrences_in song = map (λ e. record { song = song; position = e.0; word = e.1 }) (enumerate_from 0 song.1.words)

-- each word of each song
abbrev pub occurrences : Songs → List Occurrence
occurrences songs = flat_map occurrences_in songs

-- where this word stands
abbrev pub occurrences_of : ℕ → Songs → List Occurrence
occurrences_of word songs = filter (λ o. o.word == word) (occurrences songs)
