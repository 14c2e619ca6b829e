use Rattle.std.proofs.Common.{◌≡◌, None, take, refl, sym, ◌∙◌, subst}
use Rattle.hk_spec_streams.proofs.Optional.{none_of}
use Rattle.hk_station.specs.Hearing.{IsHearing}
use Rattle.hk_station.proofs.Listening.{hears_further, no_further}
use Rattle.hk_station.proofs.station.Station.listen.Goals as goal

pub returns-then-is_some-clause-hears : goal.returns-then-is_some-clause-hears
returns-then-is_some-clause-hears c = λ rules l h. subst (IsHearing rules c.args.self.now) (sym (no_further l)) h

unended : (c : goal.After-self-1) → c.args.self.now.end ≡ None
unended c = none_of c.args.self.now.end (sym c.is_some.ensures ∙ c.if-is_some.false)

pub returns-clause-hears : goal.returns-clause-hears
returns-clause-hears c = λ rules l h.
    let going = sym h.end_is ∙ unended c in
    hears_further rules c.args.self.now _ l (take c.listen.result c.args.piece.now) h going
    (c.listen.ensures.quiet rules l.used (h.receives going)) (c.listen.ensures.goes_on rules l.used (h.receives going)) refl refl refl

pub returns-clause-quiet : goal.returns-clause-quiet
returns-clause-quiet c = λ rules l h. c.listen.ensures.quiet rules l.used (h.receives (sym h.end_is ∙ unended c))
