use Rattle.std.proofs.Common.{rules, ◌≡◌, ◌<◌, ◌+◌, ◌^◌, w64, FitsSigned, nat_abs, length, set, get_or, ap, sym, ◌∙◌, arith}
use Rattle.std.proofs.lemmas.Int.{to_z-of_z}
use Rattle.std.proofs.lemmas.List.{same_lists, length-set}
use Rattle.std.proofs.lemmas.List.Elements.{All-set}
use Rattle.hk_spec_sound.specs.Circle.{quarter}
use Rattle.hk_spec_sound.specs.Spectrum.{complexes, transform}
use Rattle.hk_transform.proofs.Joining.{at-complexes}
use Rattle.hk_transform.proofs.Blocks.{length-transform}
use Rattle.hk_transform.proofs.Reordered.{length-frame}
use Rattle.hk_transform.proofs.LastBins.{bin_written}
use Rattle.hk_transform.proofs.whole.whole_stage.Goals as goal

pub loop-k-preserved : goal.loop-k-preserved
loop-k-preserved c =
    let k = c.loop-k.k in
    let re = c.loop-k.re in
    let im = c.loop-k.im in
    let inv = c.loop-k.invariant in
    let low = c.last_joined-both.result.low in
    let high = c.last_joined-both.result.high in
    let fits_low_re : FitsSigned w64 low.re = search rules in
    let fits_low_im : FitsSigned w64 low.im = search rules in
    let fits_high_re : FitsSigned w64 high.re = search rules in
    let fits_high_im : FitsSigned w64 high.im = search rules in
    let low_below = c.last_joined-both.ensures.low_below in
    let high_below = c.last_joined-both.ensures.high_below in
    let once_re = set re k low.re in
    let once_im = set im k low.im in
    let in_re : k < length re = omega arith in
    let in_im : k < length im = omega arith in
    let in_once_re : 1024 + k < length once_re = omega (arith, length-set re k low.re) in
    let in_once_im : 1024 + k < length once_im = omega (arith, length-set im k low.im) in
    record {
      re_len = search rules;
      im_len = search rules;
      bins = λ items len is j d inside upto.
          let bin = get_or (transform (quarter 9) 11 items) j d in
          simp to_z-of_z (bin_written once_re once_im (1024 + k) j high.re high.im bin in_once_re in_once_im
          (λ here. c.last_joined-both.ensures.high items d len is ∙ ap (λ i. get_or (transform (quarter 9) 11 items) i d) (sym here))
          (λ not_high. bin_written re im k j low.re low.im bin in_re in_im
          (λ here. c.last_joined-both.ensures.low items d len is ∙ ap (λ i. get_or (transform (quarter 9) 11 items) i d) (sym here))
          (λ not_low. inv.bins items len is j d inside (omega (arith, inside, upto, not_low, not_high)))));
      re_below = simp to_z-of_z (All-set (λ z. nat_abs z < 2 ^ 34) once_re (1024 + k) high.re high_below.0
          (All-set (λ z. nat_abs z < 2 ^ 34) re k low.re low_below.0 inv.re_below));
      im_below = simp to_z-of_z (All-set (λ z. nat_abs z < 2 ^ 34) once_im (1024 + k) high.im high_below.1
          (All-set (λ z. nat_abs z < 2 ^ 34) im k low.im low_below.1 inv.im_below));
    }

pub returns-clause-spectrum : goal.returns-clause-spectrum
returns-clause-spectrum c = λ items len is.
    let inv = c.loop-k.invariant in
    let bins = transform (quarter 9) 11 items in
    let now_len : length (complexes c.loop-k.re c.loop-k.im) ≡ 2048 = length-frame c.loop-k.re c.loop-k.im inv.re_len inv.im_len in
    same_lists (complexes c.loop-k.re c.loop-k.im) bins (now_len ∙ sym (length-transform 11 items len))
    (λ j d inside.
    let here : j < 2048 = omega (arith, now_len, inside) in
    at-complexes c.loop-k.re c.loop-k.im j d (omega (arith, here, inv.re_len)) (omega (arith, here, inv.im_len))
    ∙ inv.bins items len is j d here (omega (arith, here, c.loop-k-test.false)))
