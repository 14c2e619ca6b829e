-- A store of songs, as contracts see it.
use Rattle.std.specs.Prelude.{ℕ, ◌-◌, List, length, sum_by, replicate, slice_set, slice_index_or, Option, Some, None}
use Rattle.std.specs.Option.{option_map_or}

-- how many words a block has, and a song at least
abbrev pub BLOCK_SIZE : ℕ
BLOCK_SIZE = 256

-- a song by its id and words
pub record SongWithId : Type 0 where
  pub id : ℕ
  pub words : List ℕ

-- slots, each empty or with a song, and how many words of all songs there may be
pub record Store : Type 0 where
  pub slots : List (Option SongWithId)
  pub positions : ℕ

abbrev pub new_store : ℕ → ℕ → Store
new_store positions songs = record { slots = replicate songs None; positions = positions }

-- the song in a slot, where the slot is there and isn't empty
abbrev pub song_at : Store → ℕ → Option SongWithId
song_at store slot = slice_index_or store.slots slot None

-- how many words a slot has
abbrev pub size_of : Option SongWithId → ℕ
size_of slot = option_map_or (λ song. length song.words) slot 0

abbrev pub size_at : Store → ℕ → ℕ
size_at store slot = size_of (song_at store slot)

-- the words of all slots
abbrev pub words_in : List (Option SongWithId) → ℕ
words_in slots = sum_by size_of slots

-- how many words there is room for beside those of all slots
abbrev pub spare : Store → ℕ
spare store = store.positions - words_in store.slots

-- the same store with this song in a slot
abbrev pub with_song_at : Store → ℕ → SongWithId → Store
with_song_at store slot song = record store { slots = slice_set store.slots slot (Some song) }

-- the same store with this slot empty
abbrev pub without_song_at : Store → ℕ → Store
without_song_at store slot = record store { slots = slice_set store.slots slot None }
