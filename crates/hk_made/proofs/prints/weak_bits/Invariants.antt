use Rattle.std.proofs.Common.{◌≡◌}
use Rattle.hk_made.proofs.Weak.{weak_sum}
use Rattle.hk_made.proofs.prints.weak_bits.Given as goal

abbrev pub invariant-loop-i : goal.invariant-loop-i
invariant-loop-i l = l.mask ≡ weak_sum l.bit l.i
