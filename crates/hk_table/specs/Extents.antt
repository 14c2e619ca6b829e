-- How songs lie in the words of a store.
use Rattle.std.specs.Prelude.{◌≢◌, ℕ, ◌+◌, ◌-◌, ◌≤◌, nat_lt, if◌then◌else◌, List, map, take, drop, sum_by, slice_index_or, Option, Some, None, option_map, ⊤}
use Rattle.std.specs.Option.{option_map_or, IfSome}
use Rattle.hk_table.specs.Store.{SongWithId, BLOCK_SIZE}
use Rattle.hk_table.specs.declared.extent.Extent.{Extent}

-- the song of an extent
abbrev pub extent_song : List ℕ → Extent → SongWithId
extent_song words extent = record { id = extent.id; words = take extent.length (drop extent.start words) }

-- the songs of slots
abbrev pub extent_songs : List ℕ → List (Option Extent) → List (Option SongWithId)
extent_songs words slots = map (option_map (extent_song words)) slots

-- the extent lies within so many words, and has enough of them for a block
pub record IsWithin (size : ℕ) (extent : Extent) : Type 0 where
  pub ends : extent.start + extent.length ≤ size
  pub long : BLOCK_SIZE ≤ extent.length

abbrev pub IsSlotWithin : ℕ → Option Extent → Type 0
IsSlotWithin size slot = IfSome slot (IsWithin size)

-- Two extents share no word: what begins behind the other begins behind its end.
pub record IsApart (a b : Extent) : Type 0 where
  pub above : a.start ≤ b.start → a.start + a.length ≤ b.start
  pub below : b.start ≤ a.start → b.start + b.length ≤ a.start

abbrev pub AreSlotsApart : Option Extent → Option Extent → Type 0
AreSlotsApart None b = ⊤
AreSlotsApart (Some a) None = ⊤
AreSlotsApart (Some a) (Some b) = IsApart a b

abbrev pub IsSlotApart : Extent → Option Extent → Type 0
IsSlotApart extent slot = AreSlotsApart (Some extent) slot

-- different slots share no word
abbrev pub AreApart : List (Option Extent) → Type 0
AreApart slots = (i j : ℕ) → i ≢ j → AreSlotsApart (slice_index_or slots i None) (slice_index_or slots j None)

-- the extent once the words of one that is apart from it are gone
abbrev pub moved_down : Extent → Extent → Extent
moved_down gone extent = record extent { start = if nat_lt gone.start extent.start then extent.start - gone.length else extent.start }

-- how many words a slot has
abbrev pub length_of : Option Extent → ℕ
length_of slot = option_map_or (λ extent. extent.length) slot 0

-- the words of all slots
abbrev pub lengths_in : List (Option Extent) → ℕ
lengths_in slots = sum_by length_of slots
