use Rattle.std.proofs.Common.{rules, ◌<◌, ◌^◌, w64, FitsSigned, nat_abs, length, get_or, ap, sym, ◌∙◌, arith}
use Rattle.std.proofs.lemmas.Int.{to_z-of_z}
use Rattle.std.proofs.lemmas.List.Elements.{All-set}
use Rattle.hk_spec_sound.specs.Circle.{quarter}
use Rattle.hk_spec_sound.specs.Spectrum.{transform}
use Rattle.hk_transform.proofs.Joining.{at-complexes}
use Rattle.hk_transform.proofs.LastBins.{bin_written}
use Rattle.hk_transform.proofs.bins.last_stage.Goals as goal

pub loop-k-preserved : goal.loop-k-preserved
loop-k-preserved c =
    let k = c.loop-k.k in
    let re = c.loop-k.re in
    let im = c.loop-k.im in
    let inv = c.loop-k.invariant in
    let bin = c.last_joined.result.low in
    let in_re : k < length re = omega arith in
    let in_im : k < length im = omega arith in
    let fits_re : FitsSigned w64 bin.re = search rules in
    let fits_im : FitsSigned w64 bin.im = search rules in
    let below = c.last_joined.ensures.low_below in
    record {
      re_len = search rules;
      im_len = search rules;
      bins = λ items len is j d from upto. simp to_z-of_z (bin_written re im k j bin.re bin.im (get_or (transform (quarter 9) 11 items) j d) in_re in_im
          (λ here. c.last_joined.ensures.low items d len is ∙ ap (λ i. get_or (transform (quarter 9) 11 items) i d) (sym here))
          (λ other. inv.bins items len is j d from (omega (arith, upto, other))));
      re_below = simp to_z-of_z (All-set (λ z. nat_abs z < 2 ^ 34) re k bin.re below.0 inv.re_below);
      im_below = simp to_z-of_z (All-set (λ z. nat_abs z < 2 ^ 34) im k bin.im below.1 inv.im_below);
    }

pub returns-clause-bins : goal.returns-clause-bins
returns-clause-bins c = λ items len is k d from upto.
    at-complexes c.loop-k.re c.loop-k.im k d (omega (arith, upto, c.loop-k.invariant.re_len)) (omega (arith, upto, c.loop-k.invariant.im_len))
    ∙ c.loop-k.invariant.bins items len is k d from (omega (arith, upto, c.loop-k-test.false))
