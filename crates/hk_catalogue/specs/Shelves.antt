-- A catalogue, as contracts see it.
use Rattle.std.specs.Prelude.{◌≡◌, ℕ, ◌+◌, ◌-◌, ◌^◌, ◌<◌, min, slice_index_or, List, [], map, length, Some, option_map}
use Rattle.std.specs.Option.{option_map_or}
use Rattle.hk_spec_matching.specs.Catalogue.{Song, Songs, Limits}
use Rattle.hk_spec_matching.specs.Matching.{MOST_ERRORS}
use Rattle.hk_table.specs.Store.{Store, SongWithId, new_store, song_at}
use Rattle.hk_catalogue.specs.declared.edit.Edit.{Edit}
use Rattle.hk_catalogue.specs.declared.edit.Edit.TheVariants.{Add, Withdraw, Seal}

-- the slots with their songs, the ids by rising id, each with its slot, and the version
pub record Shelves : Type 0 where
  pub store : Store
  pub index : List (ℕ × ℕ)
  pub version : ℕ

abbrev pub new_shelves : ℕ → ℕ → Shelves
new_shelves songs positions = record { store = new_store positions songs; index = []; version = 0 }

-- the words in a slot
abbrev pub words_at : Store → ℕ → List ℕ
words_at store slot = option_map_or (λ song. song.words) (song_at store slot) []

-- a song of these words, with the errors that are allowed where nothing else is said
abbrev pub song_of : List ℕ → Song
song_of words = record { words = words; limit = MOST_ERRORS }

abbrev pub entry_of : SongWithId → ℕ × Song
entry_of song = (song.id, song_of song.words)

abbrev pub songs_in : Store → List (ℕ × ℕ) → Songs
songs_in store index = map (λ entry. (entry.0, song_of (words_at store entry.1))) index

-- the map from ids to songs
abbrev pub songs_of : Shelves → Songs
songs_of shelves = songs_in shelves.store shelves.index

-- these are the catalogue's limits
pub record HasLimits (shelves : Shelves) (limits : Limits) : Type 0 where
  pub songs : length shelves.store.slots ≡ limits.songs
  pub positions : shelves.store.positions ≡ limits.positions

-- the version after an edit: a Seal raises it, but not past its type's end
abbrev pub version_after : ℕ → Edit → ℕ
version_after version (Add song) = version
version_after version (Withdraw id) = version
version_after version Seal = min (version + 1) (2 ^ 32 - 1)

-- the slot has the song with this id
abbrev pub HasIn : Shelves → ℕ → ℕ → Type 0
HasIn shelves id slot = option_map (λ song. song.id) (song_at shelves.store slot) ≡ Some id

-- the numbers from 0 on
abbrev pub IsCounting : List ℕ → Type 0
IsCounting numbers = (k : ℕ) (d : ℕ) → k < length numbers → slice_index_or numbers k d ≡ k
