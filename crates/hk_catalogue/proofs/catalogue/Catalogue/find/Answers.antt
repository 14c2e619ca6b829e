use Rattle.std.proofs.Common.{List, sym, ◌∙◌, ap, subst, Some, eq-eqb}
use Rattle.std.specs.List.{All}
use Rattle.std.proofs.lemmas.Bool.{ne_eqb}
use Rattle.hk_catalogue.specs.Entries.{entry_pairs}
use Rattle.hk_catalogue.specs.Shelves.{Shelves, HasIn}
use Rattle.hk_catalogue.specs.CatalogueInside.{IsHeld}
use Rattle.hk_catalogue.specs.declared.entry.Entry.{Entry}
use Rattle.hk_catalogue.proofs.Places.{has-none}
use Rattle.hk_catalogue.proofs.Kept.{has_in_view, read_has, held_at}
use Rattle.hk_catalogue.proofs.catalogue.Catalogue.find.Goals as goal

pub returns-then-entry-id-clause-there : goal.returns-then-entry-id-clause-there
returns-then-entry-id-clause-there c =
    sym (eq-eqb c.in-Some.entry.now.id c.args.id c.if-entry-id.true)
    ∙ read_has c.self.inside c.args.self.now c.as_slice-entries.result.now c.args.id c.place_of.result c.in-Some.entry.now c.self.view_is c.as_slice-entries.ensures.value
    c.self.invariant c.place_of.ensures.splits c.in-Some.ensures.lookup.3.0 c.in-Some.ensures.lookup.1

pub returns-then-entry-id-clause-slot : goal.returns-then-entry-id-clause-slot
returns-then-entry-id-clause-slot c =
    let entries : List Entry = c.as_slice-entries.result.now in
    let held : All (IsHeld c.self.inside.store) (entry_pairs entries) = subst (λ (es : List Entry). All (IsHeld c.self.inside.store) (entry_pairs es)) (sym c.as_slice-entries.ensures.value) c.self.invariant.held in
    subst (λ (s : Shelves). HasIn s c.args.id c.in-Some.entry.now.number) c.self.view_is
    (held_at c.self.inside.store entries c.place_of.result c.in-Some.entry.now held c.in-Some.ensures.lookup.3.0 c.in-Some.ensures.lookup.1
    ∙ ap (λ n. Some n) c.if-entry-id.true)

pub returns-else-entry-id-clause-there : goal.returns-else-entry-id-clause-there
returns-else-entry-id-clause-there c =
    sym (ne_eqb c.in-Some.entry.now.id c.args.id c.if-entry-id.false)
    ∙ read_has c.self.inside c.args.self.now c.as_slice-entries.result.now c.args.id c.place_of.result c.in-Some.entry.now c.self.view_is c.as_slice-entries.ensures.value
    c.self.invariant c.place_of.ensures.splits c.in-Some.ensures.lookup.3.0 c.in-Some.ensures.lookup.1

pub returns-in-None-clause-there : goal.returns-in-None-clause-there
returns-in-None-clause-there c =
    has-none c.as_slice-entries.result.now c.args.id c.place_of.result c.place_of.ensures.splits c.in-None.ensures.lookup.3
    ∙ has_in_view c.self.inside c.args.self.now c.as_slice-entries.result.now c.args.id c.self.view_is c.as_slice-entries.ensures.value
