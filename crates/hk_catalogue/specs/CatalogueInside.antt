-- What a catalogue keeps, and what is true of it.
use Rattle.std.specs.Prelude.{◌≡◌, ◌≢◌, ℕ, Bool, count_by, ◌+◌, ◌≤◌, ◌<◌, ◌^◌, List, length, slice_index_or, None, Some, option_map, vec_len, vec_capacity}
use Rattle.std.specs.List.{All, Contains}
use Rattle.hk_spec_matching.specs.Catalogue.{positions_of}
use Rattle.hk_spec_matching.specs.Cost as cost
use Rattle.hk_table.specs.Store.{Store, SongWithId, song_at, spare}
use Rattle.hk_table.specs.Index.{all_words, index_of}
use Rattle.hk_catalogue.specs.Entries.{entry_pairs, AreRising}
use Rattle.hk_catalogue.specs.Shelves.{Shelves, songs_in}
use Rattle.hk_catalogue.specs.declared.catalogue.Catalogue.TheInside.{Inside}

abbrev pub as_shelves : Inside → Shelves
as_shelves c = record { store = c.store; index = entry_pairs c.index.items; version = c.version }

-- the entry's slot has a song with its id
abbrev pub IsHeld : Store → ℕ × ℕ → Type 0
IsHeld store entry = option_map (λ song. song.id) (song_at store entry.1) ≡ Some entry.0

pub record IsFree (store : Store) (slot : ℕ) : Type 0 where
  pub there : slot < length store.slots
  pub empty : song_at store slot ≡ None

-- each song in a slot has its entry
abbrev pub IsFilled : Store → List (ℕ × ℕ) → Type 0
IsFilled store index = (slot : ℕ) (song : SongWithId) → song_at store slot ≡ Some song → Contains index (song.id, slot)

-- Ids rise, each has its song in a slot of its own, and no other slot has a song.
pub record IsShelved (shelves : Shelves) : Type 0 where
  pub rising : AreRising shelves.index
  pub held : All (IsHeld shelves.store) shelves.index
  pub filled : IsFilled shelves.store shelves.index

-- no number stands twice
abbrev pub AreDistinct : List ℕ → Type 0
AreDistinct xs = (i j : ℕ) → i ≢ j → i < length xs → j < length xs → slice_index_or xs i 0 ≢ slice_index_or xs j 0

-- the slots have as many words that pass a test as the songs of the map
abbrev pub AreCounted : Store → List (ℕ × ℕ) → Type 0
AreCounted store index = (p : ℕ → Bool) → count_by p (all_words (index_of store).slots) ≡ count_by p (cost.all_words (songs_in store index))

-- Ids rise, each has its song in a slot of its own, no other slot has a song, and the free slots are listed once.
-- The table has the words of the store.
pub record IsKept (c : Inside) : Type 0 where
  pub rising : AreRising (entry_pairs c.index.items)
  pub held : All (IsHeld c.store) (entry_pairs c.index.items)
  pub filled : IsFilled c.store (entry_pairs c.index.items)
  pub free : All (IsFree c.store) c.free.items
  pub distinct : AreDistinct c.free.items
  pub all_slots : vec_len c.index + vec_len c.free ≡ length c.store.slots
  pub all_words : positions_of (songs_in c.store (entry_pairs c.index.items)) + spare c.store ≡ c.store.positions
  pub counted : AreCounted c.store (entry_pairs c.index.items)
  pub indexed : c.table ≡ index_of c.store
  pub short : length c.store.slots < 2 ^ 32
  pub room_index : length c.store.slots ≤ vec_capacity c.index
  pub room_free : length c.store.slots ≤ vec_capacity c.free
