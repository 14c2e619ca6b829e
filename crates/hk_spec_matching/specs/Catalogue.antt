-- The catalogue's songs by id, and its versions.
use Rattle.std.specs.Prelude.{ℕ, ◌≤◌, ◌+◌, ◌==◌, nat_le, nat_lt, Bool, ◌&&◌, not, if◌then◌else◌, List, [], ◌∷◌, length, take, fold, filter, sum_by}
use Rattle.std.specs.Ordering.{nat_cmp}
use Rattle.std.specs.List.{list_any}
use Rattle.std.specs.FinMap.{put}

-- what a catalogue has of a song beside its id: its words, and the errors that a match of it may have
pub record Song : Type 0 where
  pub words : List ℕ
  pub limit : ℕ

-- a finite map from ids to songs: its pairs, by rising id
abbrev pub Songs : Type 0
Songs = List (ℕ × Song)

abbrev pub has_song : Songs → ℕ → Bool
has_song songs id = list_any (λ entry. entry.0 == id) songs

-- the same songs with this one at its id
abbrev pub with_song : Songs → ℕ → Song → Songs
with_song songs id song = put nat_cmp id song songs

abbrev pub without_song : Songs → ℕ → Songs
without_song songs id = filter (λ entry. not (entry.0 == id)) songs

-- an edit of the catalogue
pub data Edit : Type 0 where
  Add : ℕ → Song → Edit
  Withdraw : ℕ → Edit

-- how many songs there may be, how many words of all songs, and how many versions
pub record Limits : Type 0 where
  pub songs : ℕ
  pub positions : ℕ
  pub versions : ℕ

-- the words of all songs
abbrev pub positions_of : Songs → ℕ
positions_of songs = sum_by (λ entry. length entry.1.words) songs

abbrev pub has_room : Limits → Songs → ℕ → Bool
has_room limits songs words = nat_lt (length songs) limits.songs && nat_le (positions_of songs + words) limits.positions

-- An edit's step. An Add of an id that is there, or without room, changes nothing; nor does a Withdraw of an id that isn't there.
abbrev pub edited : Limits → Songs → Edit → Songs
edited limits songs (Add id song) =
    if not (has_song songs id) && has_room limits songs (length song.words) then with_song songs id song else songs
edited limits songs (Withdraw id) = without_song songs id

-- the edits one after another
abbrev pub edited_by : Limits → Songs → List Edit → Songs
edited_by limits songs edits = fold (edited limits) songs edits

-- the batches that were published
abbrev pub Journal : Type 0
Journal = List (List Edit)

-- what the first so many batches leave, from no song on
unfoldable pub version : Limits → Journal → ℕ → Songs
version limits journal v = fold (edited_by limits) [] (take v journal)

-- Versions that never fall, from one to another.
abbrev pub Rise : ℕ → List ℕ → ℕ → Type 0
Rise from [] to = from ≤ to
Rise from (v ∷ rest) to = (from ≤ v) × Rise v rest to
