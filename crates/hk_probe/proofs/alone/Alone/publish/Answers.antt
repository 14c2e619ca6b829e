-- All staged edits are done and nothing is staged; the roll has the new version.
use Rattle.std.proofs.Common.{◌≡◌, ◌+◌, ◌∙◌, sym, ap, subst, arith, List}
use Rattle.std.specs.List.{All}
use Rattle.std.proofs.lemmas.List.Elements.{All-nil}
use Rattle.hk_spec_matching.specs.Catalogue.{edited_by}
use Rattle.hk_catalogue.specs.Register.{Register}
use Rattle.hk_catalogue.specs.Refusals.{lengths_of}
use Rattle.hk_catalogue.specs.Shelves.{songs_of, HasLimits}
use Rattle.hk_catalogue.specs.Shelf.{IsChange, changes_of}
use Rattle.hk_catalogue.specs.declared.edit.Edit.{Edit}
use Rattle.hk_probe.specs.Single.{Single, after_publish}
use Rattle.hk_probe.specs.Inside.{as_single, IsKept}
use Rattle.hk_probe.specs.declared.alone.Alone.TheInside.{Inside}
use Rattle.hk_probe.proofs.alone.Alone.publish.Goals as goal

-- the songs and the version that are published
songs_are : (c : goal.After-version) → songs_of c.absorb.new.self ≡ edited_by c.self.inside.roll.limits (songs_of c.self.inside.published) (changes_of c.self.inside.staged.items)
songs_are c =
    let inside : Inside = c.self.inside in
    c.absorb.ensures.songs inside.roll.limits (c.absorb_all.ensures.limits_stay inside.roll.limits c.self.invariant.limits)
    ∙ c.absorb_all.ensures.songs inside.roll.limits c.self.invariant.limits
    ∙ ap (λ (es : List Edit). edited_by inside.roll.limits (songs_of inside.published) (changes_of es)) c.as_slice.ensures.value

version_is : (c : goal.After-version) → c.absorb.new.self.version ≡ c.self.inside.published.version + 1
version_is c = omega (arith, c.absorb.ensures.version, c.absorb_all.ensures.version, c.self.invariant.version, c.in_default.ensures.left)

same_limits : (c : goal.After-version) → c.note.new.self.limits ≡ c.self.inside.roll.limits
same_limits c = ap (λ (r : Register). r.limits) c.note.ensures.noted

pub invariant_of-self : goal.invariant_of-self
invariant_of-self c =
    let inside : Inside = c.self.inside in
    let kept : IsKept inside = c.self.invariant in
    let now : edited_by c.note.new.self.limits (songs_of c.absorb.new.self) (changes_of c.clear.new.self.items) ≡ songs_of c.absorb.new.self =
    ap (λ (es : List Edit). edited_by c.note.new.self.limits (songs_of c.absorb.new.self) (changes_of es)) c.clear.ensures.items in
    record {
      limits = subst (HasLimits c.absorb.new.self) (sym (same_limits c))
          (c.absorb.ensures.limits_stay inside.roll.limits (c.absorb_all.ensures.limits_stay inside.roll.limits kept.limits));
      counts = ap (λ (r : Register). r.lengths) c.note.ensures.noted ∙ kept.counts ∙ ap lengths_of (sym (now ∙ songs_are c));
      version = ap (λ (r : Register). r.version) c.note.ensures.noted ∙ omega (arith, version_is c, kept.version);
      changes = subst (All IsChange) (sym c.clear.ensures.items) (All-nil IsChange);
    }

pub returns-clause-published : goal.returns-clause-published
returns-clause-published c =
    let inside : Inside = c.self.inside in
    let new : as_single (record { published = c.absorb.new.self; roll = c.note.new.self; staged = c.clear.new.self }) ≡ after_publish (as_single inside) =
    λ i. record { songs = songs_are c i; version = version_is c i; staged = ap changes_of c.clear.ensures.items i; limits = same_limits c i } in
    new ∙ ap after_publish c.self.view_is

pub returns-clause-limits_stay : goal.returns-clause-limits_stay
returns-clause-limits_stay c = same_limits c ∙ ap (λ (a : Single). a.limits) c.self.view_is
