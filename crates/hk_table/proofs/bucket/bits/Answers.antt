use Rattle.std.proofs.Common.{arith}
use Rattle.hk_table.proofs.Buckets.{bits_are, one_shifted}
use Rattle.hk_table.proofs.bucket.bits.Goals as goal

pub returns-then-positions-bits-clause-bits : goal.returns-then-positions-bits-clause-bits
returns-then-positions-bits-clause-bits c =
    bits_are c.args.positions c.loop-bits.bits (omega arith) (omega arith) c.loop-bits.invariant (λ low.
    omega (arith, c.if-positions-bits.true, one_shifted c.loop-bits.bits (omega (arith, low))))

pub returns-clause-bits : goal.returns-clause-bits
returns-clause-bits c =
    bits_are c.args.positions 20 (omega arith) (omega arith)
    (λ b least low. c.loop-bits.invariant b least (omega (arith, low))) (λ low. absurd (omega (arith, low)))
