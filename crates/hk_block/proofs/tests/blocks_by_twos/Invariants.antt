use Rattle.std.proofs.Common.{◌≡◌, ◌≤◌}
use Rattle.hk_block.proofs.tests.blocks_by_twos.Given as goal

abbrev pub invariant-loop-n : goal.invariant-loop-n
invariant-loop-n g l = (l.ring.count ≡ l.n) × (l.blocks ≤ l.n)
