use Rattle.std.proofs.Common.{sym, subst}
use Rattle.hk_spec_runs.specs.Outcome.{task_of}
use Rattle.hk_words.specs.declared.order.Order.{Order}
use Rattle.hk_words.specs.Orders.{order_meant}
use Rattle.hk_words.specs.Rules.{rules_meant}
use Rattle.hk_replay.specs.Orders.{CarriesOut}
use Rattle.hk_replay.proofs.MadeLine.{line_carries_out}
use Rattle.hk_replay.proofs.order.carry_out.Goals as goal

pub returns-in-Make-clause-does : goal.returns-in-Make-clause-does
returns-in-Make-clause-does g c =
    subst (λ (o : Order). CarriesOut g.S.Source g.K.Sink (task_of (order_meant o)) c.make.result c.args.input.now c.args.input.now c.args.out.now c.make.new.out) (sym c.in-Make.is)
    (line_carries_out g.S.Source g.K.Sink c.in-Make.seed (rules_meant c.in-Make.rules) c.args.input.now c.args.out.now c.make.new.out c.make.result c.make.ensures.made)
