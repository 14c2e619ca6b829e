-- What a catalogue for one thread keeps, and what is true of it.
use Rattle.std.specs.Prelude.{◌≡◌}
use Rattle.std.specs.List.{All}
use Rattle.hk_spec_matching.specs.Catalogue.{edited_by}
use Rattle.hk_catalogue.specs.Register.{Counts}
use Rattle.hk_catalogue.specs.Shelves.{songs_of, HasLimits}
use Rattle.hk_catalogue.specs.Shelf.{IsChange, changes_of}
use Rattle.hk_probe.specs.Single.{Single}
use Rattle.hk_probe.specs.declared.alone.Alone.TheInside.{Inside}

abbrev pub as_single : Inside → Single
as_single a = record {
  songs = songs_of a.published;
  version = a.published.version;
  staged = changes_of a.staged.items;
  limits = a.roll.limits;
}

-- The roll is that of the songs with the staged edits, and the catalogue has its limits and version.
pub record IsKept (a : Inside) : Type 0 where
  pub limits : HasLimits a.published a.roll.limits
  pub counts : Counts a.roll (edited_by a.roll.limits (songs_of a.published) (changes_of a.staged.items))
  pub version : a.roll.version ≡ a.published.version
  pub changes : All IsChange a.staged.items
