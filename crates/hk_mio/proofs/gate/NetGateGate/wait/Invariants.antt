use Rattle.hk_outside.specs.Gates.{KeepsSet}
use Rattle.hk_mio.proofs.gate.NetGateGate.wait.Given as goal

abbrev pub invariant-loop-event : goal.invariant-loop-event
invariant-loop-event g l = KeepsSet l.initial.ready l.ready
