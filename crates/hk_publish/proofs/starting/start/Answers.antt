-- The roll of no song is that of the desk.
use Rattle.std.proofs.Common.{rules, ◌≡◌, [], List, drop, sym, ◌∙◌, ap, subst}
use Rattle.hk_spec_matching.specs.Catalogue.{Limits}
use Rattle.hk_catalogue.specs.Register.{Register, new_register}
use Rattle.hk_publish.specs.declared.edition.Operation.{Operation}
use Rattle.hk_publish.specs.Edition.{Edition, new_edition}
use Rattle.hk_publish.specs.Holding.{IsKept}
use Rattle.hk_publish.proofs.Desks.{kept_new}
use Rattle.hk_publish.proofs.starting.start.Goals as goal

pub over-requires-clause-kept : goal.over-requires-clause-kept
over-requires-clause-kept g c =
    let limits : Limits = record { songs = c.args.songs; positions = c.args.positions; versions = c.args.versions } in
    let x : Edition = c.in_ok-first.first in
    let w = c.seat_all.new.writer in
    let new : x ≡ new_edition limits c.reached.result.book = search rules in
    let first : x ≡ new_edition limits x.book = new ∙ ap (λ (e : Edition). new_edition limits e.book) (sym new) in
    let value : w.desk.shown.value ≡ x = search rules in
    let none : drop w.behind w.log.items ≡ [] = search rules in
    let roll : c.in_ok-roll.roll ≡ new_register limits = search rules in
    subst (λ (z : Edition × List Operation × Register). IsKept z.0 z.1 z.2) (λ i. (sym value i, sym none i, sym roll i)) (kept_new limits x first)
