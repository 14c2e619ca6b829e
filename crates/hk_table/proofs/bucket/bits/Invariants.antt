use Rattle.std.proofs.Common.{ℕ, ◌≤◌, ◌<◌, ◌^◌}
use Rattle.hk_table.proofs.bucket.bits.Given as goal

abbrev pub invariant-loop-bits : goal.invariant-loop-bits
invariant-loop-bits l = (b : ℕ) → 8 ≤ b → b < l.bits → 2 ^ b < l.positions
