-- The edits before this one are done.
use Rattle.std.proofs.Common.{◌≡◌, take}
use Rattle.hk_spec_matching.specs.Catalogue.{Limits, edited_by}
use Rattle.hk_catalogue.specs.Shelves.{songs_of, HasLimits}
use Rattle.hk_catalogue.specs.Shelf.{changes_of}
use Rattle.hk_probe.proofs.alone.absorb_all.Given as goal

abbrev pub invariant-loop-edit : goal.invariant-loop-edit
invariant-loop-edit l = record {
  songs : (limits : Limits) → HasLimits l.fn.catalogue limits → songs_of l.catalogue ≡ edited_by limits (songs_of l.fn.catalogue) (changes_of (take l.edit-index l.edits));
  version : l.catalogue.version ≡ l.fn.catalogue.version;
  limits : (limits : Limits) → HasLimits l.fn.catalogue limits → HasLimits l.catalogue limits;
}
