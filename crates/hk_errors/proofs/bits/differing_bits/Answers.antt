-- Two words of 32 bits differ in 32 at most.
use Rattle.std.proofs.Common.{arith}
use Rattle.std.specs.Int.Count.{ones-le}
use Rattle.std.specs.Int.RustNames.{bit_xor}
use Rattle.std.proofs.lemmas.Nat.{xor_of_32}
use Rattle.hk_errors.proofs.bits.differing_bits.Goals as goal

pub returns-clause-most : goal.returns-clause-most
returns-clause-most c = ones-le 32 (bit_xor c.args.a c.args.b) (xor_of_32 c.args.a c.args.b (omega arith) (omega arith))
