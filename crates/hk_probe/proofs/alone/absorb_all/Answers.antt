use Rattle.std.proofs.Common.{◌∙◌, sym, ap, ℕ, List, subst, take}
use Rattle.hk_spec_matching.specs.Catalogue.{Songs, edited_by}
use Rattle.hk_spec_matching.specs.Matching.{MOST_ERRORS}
use Rattle.hk_catalogue.specs.Register.{songs_after}
use Rattle.hk_catalogue.specs.Shelves.{songs_of}
use Rattle.hk_catalogue.specs.Shelf.{IsChange, changes_of}
use Rattle.hk_catalogue.specs.declared.edit.Edit.{Edit}
use Rattle.hk_probe.proofs.Changes.{change_more, version_stays}
use Rattle.hk_probe.proofs.alone.absorb_all.Goals as goal

pub loop-edit-preserved : goal.loop-edit-preserved
loop-edit-preserved c =
    let edits : List Edit = c.args.edits.now in
    let edit : Edit = c.edit-item.result in
    let i : ℕ = c.loop-edit.edit-index in
    let before : Songs = songs_of c.args.catalogue.now in
    let change : IsChange edit = subst IsChange (sym c.edit-item.is) (c.requires.changes i edit c.loop-edit-test.true) in
    record {
      songs = λ limits has.
          c.absorb.ensures.songs limits (c.loop-edit.invariant.limits limits has)
          ∙ ap (λ (songs : Songs). songs_after limits MOST_ERRORS songs edit) (c.loop-edit.invariant.songs limits has)
          ∙ ap (songs_after limits MOST_ERRORS (edited_by limits before (changes_of (take i edits)))) c.edit-item.is
          ∙ sym (change_more limits before edits i edit c.loop-edit-test.true);
      version = c.absorb.ensures.version ∙ version_stays c.loop-edit.catalogue.version edit change ∙ c.loop-edit.invariant.version;
      limits = λ limits has. c.absorb.ensures.limits_stay limits (c.loop-edit.invariant.limits limits has);
    }
