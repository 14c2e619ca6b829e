use Rattle.std.proofs.Common.{◌+◌, ◌%◌, arith}
use Rattle.std.proofs.lemmas.Nat.{one_shl}
use Rattle.hk_made.proofs.Weak.{weak_sum-more, weak_sum-fits}
use Rattle.hk_made.proofs.prints.weak_bits.Goals as goal

pub overflow_add-mask-in-loop-i : goal.overflow_add-mask-in-loop-i
overflow_add-mask-in-loop-i c =
    let bit = c.args.bit in
    let i = c.loop-i.i in
    omega (arith, c.loop-i.invariant, one_shl ((bit + i) % 32) 32 (omega arith), weak_sum-more bit i, weak_sum-fits bit (i + 1) c.requires.inside (omega (arith, c.requires.few, c.loop-i-test.true)))

pub loop-i-preserved : goal.loop-i-preserved
loop-i-preserved c =
    let bit = c.args.bit in
    let i = c.loop-i.i in
    omega (arith, c.loop-i.invariant, one_shl ((bit + i) % 32) 32 (omega arith), weak_sum-more bit i)
