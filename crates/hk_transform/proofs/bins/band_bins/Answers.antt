use Rattle.std.proofs.Common.{rules, ◌≡◌, ℤ, pos, List, length, replicate, nat_abs, ap, sym, ◌∙◌, arith}
use Rattle.std.proofs.lemmas.List.{length-replicate, get_or-replicate}
use Rattle.hk_spec_sound.specs.Spectrum.{complexes}
use Rattle.hk_transform.specs.Parts.{reversed}
use Rattle.hk_transform.proofs.Reordered.{IsReversed, reordered, reordered_below, length-frame}
use Rattle.hk_transform.proofs.Reversing.{reversed_below}
use Rattle.hk_transform.proofs.bins.band_bins.Goals as goal

zeros_reversed : IsReversed (replicate 2048 (pos 0)) (replicate 2048 (pos 0))
zeros_reversed k d inside = get_or-replicate 2048 k (pos 0) d inside ∙ sym (get_or-replicate 2048 (reversed 11 k) (pos 0) d (reversed_below 11 k inside))

pub ten_stages-requires-clause-re_below : goal.ten_stages-requires-clause-re_below
ten_stages-requires-clause-re_below c =
    let re : List ℤ = c.args.re.now in
    let re_len : length re ≡ 2048 = search rules in
    reordered_below 32769 re c.load_reversed.new.into re_len c.load_reversed.ensures.into_len c.load_reversed.ensures.reversed c.requires.re_within

pub ten_stages-requires-clause-im_below : goal.ten_stages-requires-clause-im_below
ten_stages-requires-clause-im_below c = λ k d inside. omega (arith, ap nat_abs (get_or-replicate 2048 k (pos 0) d inside))

pub returns-clause-bins : goal.returns-clause-bins
returns-clause-bins c = λ k d from upto.
    let re : List ℤ = c.args.re.now in
    let zeros : List ℤ = replicate 2048 (pos 0) in
    let re_len : length re ≡ 2048 = search rules in
    let zeros_len : length zeros ≡ 2048 = length-replicate 2048 (pos 0) in
    let items = complexes re zeros in
    let len : length items ≡ 2048 = length-frame re zeros re_len zeros_len in
    c.last_stage.ensures.bins items len
    (c.ten_stages.ensures.halves items len
    (reordered re zeros c.load_reversed.new.into zeros re_len zeros_len c.load_reversed.ensures.into_len zeros_len c.load_reversed.ensures.reversed zeros_reversed))
    k d from upto
