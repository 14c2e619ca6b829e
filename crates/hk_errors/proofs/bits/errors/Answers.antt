use Rattle.std.proofs.Common.{◌≡◌, ℕ, arith, ◌∙◌, ap, zip, sum_by, take}
use Rattle.std.specs.Int.RustNames.{count_ones, bit_xor}
use Rattle.std.proofs.lemmas.List.{take_all}
use Rattle.std.proofs.lemmas.Slice.Zip.{length-zip}
use Rattle.hk_spec_matching.proofs.Pairs.{sum_more}
use Rattle.hk_errors.proofs.bits.errors.Goals as goal

pub loop-j-preserved : goal.loop-j-preserved
loop-j-preserved c =
    let more = sum_more (λ (p : ℕ × ℕ). count_ones (bit_xor p.0 p.1)) c.args.a.now c.args.b.now c.loop-j.j 0 0 (omega arith) (omega arith) in
    record { counted = omega (arith, c.loop-j.invariant.counted, c.differing_bits-errors.ensures.count, more); few = omega arith }

pub returns-clause-count : goal.returns-clause-count
returns-clause-count c =
    let all : take c.loop-j.j (zip c.args.a.now c.args.b.now) ≡ zip c.args.a.now c.args.b.now =
    take_all c.loop-j.j (zip c.args.a.now c.args.b.now) (omega (arith, length-zip c.args.a.now c.args.b.now)) in
    c.loop-j.invariant.counted ∙ ap (sum_by (λ (p : ℕ × ℕ). count_ones (bit_xor p.0 p.1))) all
