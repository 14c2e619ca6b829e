-- The writer is as it was.
use Rattle.std.proofs.Common.{◌≡◌}
use Rattle.hk_publish.proofs.visitor.seat.Given as goal

abbrev pub invariant-loop : goal.invariant-loop
invariant-loop g l = l.writer ≡ l.fn.writer
