-- What a store keeps, and what is true of it.
use Rattle.std.specs.Prelude.{◌≡◌, ◌≤◌, ◌<◌, ◌^◌, length, vec_len, vec_capacity}
use Rattle.std.specs.List.{All}
use Rattle.hk_table.specs.Store.{Store}
use Rattle.hk_table.specs.Extents.{extent_songs, IsSlotWithin, AreApart, lengths_in}
use Rattle.hk_table.specs.declared.song_store.SongStore.TheInside.{Inside}

abbrev pub as_store : Inside → Store
as_store s = record { slots = extent_songs s.words.items s.slots.items; positions = s.positions }

-- Songs lie in the words one beside the other, and there is room for all that may still come.
pub record IsKept (s : Inside) : Type 0 where
  pub within : All (IsSlotWithin (length s.words.items)) s.slots.items
  pub apart : AreApart s.slots.items
  pub all_words : lengths_in s.slots.items ≡ length s.words.items
  pub few_words : vec_len s.words ≤ s.positions
  pub short : s.positions < 2 ^ 32
  pub room : s.positions ≤ vec_capacity s.words
