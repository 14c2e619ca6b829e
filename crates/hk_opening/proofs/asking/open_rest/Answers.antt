use Rattle.std.proofs.Common.{length}
use Rattle.hk_opening.proofs.Back.{no_operator, only_gates}
use Rattle.hk_opening.proofs.Order.{no_gate_asked, no_gate_given, operator_unasked}
use Rattle.hk_opening.proofs.asking.open_rest.Goals as goal

pub operator-requires-clause-once : goal.operator-requires-clause-once
operator-requires-clause-once g c = operator_unasked c.requires.stations.0 _ c.requires.stations.1

pub open_gates-requires-clause-none_asked : goal.open_gates-requires-clause-none_asked
open_gates-requires-clause-none_asked g c κs within = no_gate_asked c.requires.stations.0 _ _ c.requires.stations.1 c.in-Ok.ensures.ok.asked.calls

pub open_gates-requires-clause-none_given : goal.open_gates-requires-clause-none_given
open_gates-requires-clause-none_given g c κs within = no_gate_given c.requires.stations.0 _ _ c.requires.stations.1 c.in-Ok.ensures.ok.asked.calls

pub returns-in-Err-clause-only : goal.returns-in-Err-clause-only
returns-in-Err-clause-only g c = λ n before.
    no_operator n (length c.args.gates.now.items) (g.D.Door.doorway c.operator.new.self) _ before c.in-Err.ensures.refused.asked.calls

pub returns-in-Err-open_gates-clause-only : goal.returns-in-Err-open_gates-clause-only
returns-in-Err-open_gates-clause-only g c = λ n before.
    only_gates n (length c.open_gates.new.gates.items) (g.D.Door.doorway c.return_operator.new.self) _ before _ _
    c.in-Ok.ensures.ok.asked.calls c.in-Err-open_gates.ensures.last c.return_operator.ensures.back.calls c.return_operator.ensures.back.back
