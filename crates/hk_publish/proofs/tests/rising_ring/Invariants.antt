use Rattle.std.proofs.Common.{◌≡◌}
use Rattle.hk_publish.proofs.tests.rising_ring.Given as goal

abbrev pub invariant-loop-n : goal.invariant-loop-n
invariant-loop-n l = l.ring.count ≡ l.n
