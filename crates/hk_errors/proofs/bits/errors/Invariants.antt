-- The bits that differ in the pairs before j, at most 32 of each.
use Rattle.std.proofs.Common.{◌≡◌, ◌≤◌, ◌*◌, take, zip, sum_by}
use Rattle.std.specs.Int.RustNames.{count_ones, bit_xor}
use Rattle.hk_errors.proofs.bits.errors.Given as goal

abbrev pub invariant-loop-j : goal.invariant-loop-j
invariant-loop-j l = record {
  counted : l.errors ≡ sum_by (λ p. count_ones (bit_xor p.0 p.1)) (take l.j (zip l.a l.b));
  few : l.errors ≤ 32 * l.j;
}
