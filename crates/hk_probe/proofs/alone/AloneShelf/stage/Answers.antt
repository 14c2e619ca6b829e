-- One edit more is staged, and the roll notes it.
use Rattle.std.proofs.Common.{◌≡◌, ◌++◌, [], ◌∷◌, ◌∙◌, sym, ap, subst, List}
use Rattle.std.specs.List.{All}
use Rattle.std.proofs.lemmas.List.Elements.{All-push, filter_map-append}
use Rattle.hk_spec_matching.specs.Catalogue.{Songs, edited_by}
use Rattle.hk_spec_matching.specs.Matching.{MOST_ERRORS}
use Rattle.hk_catalogue.specs.Register.{Register, songs_after}
use Rattle.hk_catalogue.specs.Refusals.{lengths_of}
use Rattle.hk_catalogue.specs.Shelves.{songs_of, HasLimits}
use Rattle.hk_catalogue.specs.Shelf.{IsChange, change_of, changes_of}
use Rattle.hk_catalogue.specs.declared.edit.Edit.{Edit}
use Rattle.hk_probe.specs.Single.{Single, shelf_of}
use Rattle.hk_probe.specs.Inside.{as_single, IsKept}
use Rattle.hk_probe.specs.declared.alone.Alone.TheInside.{Inside}
use Rattle.hk_probe.proofs.Changes.{change_push, limits_noted, version_noted, with_edit, shelf_staged}
use Rattle.hk_probe.proofs.alone.AloneShelf.stage.Goals as goal

same_limits : (c : goal.After-push_reserved) → c.note.new.self.limits ≡ c.self.inside.roll.limits
same_limits c = ap (λ (r : Register). r.limits) c.note.ensures.noted ∙ limits_noted c.self.inside.roll c.args.edit

staged_are : (c : goal.After-push_reserved) → c.push_reserved.new.self.items ≡ c.self.inside.staged.items ++ c.args.edit ∷ []
staged_are c = c.push_reserved.ensures.items ∙ ap (λ (es : List Edit). es ++ c.args.edit ∷ []) c.reserve.ensures.items

pub invariant_of-self-2 : goal.invariant_of-self-2
invariant_of-self-2 c =
    let inside : Inside = c.self.inside in
    let kept : IsKept inside = c.self.invariant in
    let songs : Songs = songs_of inside.published in
    let present : Songs = edited_by inside.roll.limits songs (changes_of inside.staged.items) in
    let grown : edited_by c.note.new.self.limits songs (changes_of c.push_reserved.new.self.items) ≡ songs_after inside.roll.limits MOST_ERRORS present c.args.edit =
    ap (λ limits. edited_by limits songs (changes_of c.push_reserved.new.self.items)) (same_limits c)
    ∙ ap (λ (es : List Edit). edited_by inside.roll.limits songs (changes_of es)) (staged_are c)
    ∙ change_push inside.roll.limits songs inside.staged.items c.args.edit in
    record {
      limits = subst (HasLimits inside.published) (sym (same_limits c)) kept.limits;
      counts = c.note.ensures.songs MOST_ERRORS present kept.counts ∙ ap lengths_of (sym grown);
      version = ap (λ (r : Register). r.version) c.note.ensures.noted ∙ version_noted inside.roll c.args.edit c.requires.change ∙ kept.version;
      changes = subst (All IsChange) (sym (staged_are c)) (All-push IsChange inside.staged.items c.args.edit kept.changes c.requires.change);
    }

pub returns-clause-staged : goal.returns-clause-staged
returns-clause-staged c =
    let inside : Inside = c.self.inside in
    let staged : changes_of c.push_reserved.new.self.items ≡ changes_of inside.staged.items ++ changes_of (c.args.edit ∷ []) =
    ap changes_of (staged_are c) ∙ filter_map-append change_of inside.staged.items (c.args.edit ∷ []) in
    let new : as_single (record { published = inside.published; roll = c.note.new.self; staged = c.push_reserved.new.self }) ≡ with_edit (as_single inside) c.args.edit =
    λ i. record { songs = songs_of inside.published; version = inside.published.version; staged = staged i; limits = same_limits c i } in
    ap shelf_of (new ∙ ap (λ (a : Single). with_edit a c.args.edit) c.self.view_is) ∙ shelf_staged c.args.self.now c.args.edit c.requires.change

pub returns-clause-limits_stay : goal.returns-clause-limits_stay
returns-clause-limits_stay c = same_limits c ∙ ap (λ (a : Single). a.limits) c.self.view_is
