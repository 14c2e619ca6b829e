-- A catalogue for one thread, as contracts see it.
use Rattle.std.specs.Prelude.{ℕ, ◌+◌, ◌==◌, nat_le, if◌then◌else◌, true, List, [], Some, None, Result, Ok, Err}
use Rattle.hk_spec_matching.specs.Catalogue.{Songs, Edit, Limits, edited_by}
use Rattle.hk_block.specs.Looker.{Past, ShelfView, LookerView}
use Rattle.hk_catalogue.specs.declared.refused.Refused.{Refused}
use Rattle.hk_catalogue.specs.declared.refused.Refused.TheVariants.{VersionsFull}

-- the songs of the published version, that version, the edits that a publish would publish, and the limits
pub record Single : Type 0 where
  pub songs : Songs
  pub version : ℕ
  pub staged : List Edit
  pub limits : Limits

abbrev pub new_single : Limits → Single
new_single limits = record { songs = []; version = 0; staged = []; limits = limits }

-- the songs that a publish would give
abbrev pub present_of : Single → Songs
present_of alone = edited_by alone.limits alone.songs alone.staged

-- the next version, which has all that was staged
abbrev pub after_publish : Single → Single
after_publish alone = record { songs = present_of alone; version = alone.version + 1; staged = []; limits = alone.limits }

-- the answer to a publish
abbrev pub publish_answer : Single → Result ℕ Refused
publish_answer alone = if nat_le alone.limits.versions alone.version then Err (VersionsFull alone.limits.versions) else Ok (alone.version + 1)

-- the songs of the published version, and nothing of any other
abbrev pub past_of : Single → Past
past_of alone v = if v == alone.version then Some alone.songs else None

-- what it is as a shelf
abbrev pub shelf_of : Single → ShelfView
shelf_of alone = record {
  present = present_of alone;
  staged = alone.staged;
  limits = alone.limits;
  base = (alone.version, alone.songs);
  journal = None;
  home = None;
}

-- what it is as a looker: its version changes by a publish alone
abbrev pub looker_of : Single → LookerView
looker_of alone = record {
  at = alone.version;
  past = past_of alone;
  songs = alone.songs;
  room = alone.limits.positions;
  shown = None;
  shelf = Some (shelf_of alone);
  still = true;
  home = None;
}
