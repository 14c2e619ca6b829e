use Rattle.std.proofs.Common.{rules, ◌∙◌, ap, pos, get_or, arith, w64, FitsSigned}
use Rattle.std.proofs.lemmas.List.{take_all}
use Rattle.std.proofs.lemmas.Int.{to_z-of_z}
use Rattle.hk_spec_sound.specs.Spectrum.{complexes, energy}
use Rattle.hk_spec_sound.proofs.Spectra.{energy-more, length-complexes}
use Rattle.hk_bands.proofs.energies.energy.Goals as goal

pub loop-i-init : goal.loop-i-init
unfolding energy
loop-i-init c = record { so_far = search rules; bounded = search rules }

pub loop-i-preserved : goal.loop-i-preserved
loop-i-preserved c =
    let re = c.args.re.now in
    let im = c.args.im.now in
    let more = energy-more re im c.loop-i.i (pos 0) c.loop-i-test.true (omega arith) in
    let fits_re : FitsSigned w64 (get_or re c.loop-i.i (pos 0)) = search rules in
    let fits_im : FitsSigned w64 (get_or im c.loop-i.i (pos 0)) = search rules in
    let re_squared = simp to_z-of_z at c.square.ensures.value in
    let im_squared = simp to_z-of_z at c.square-in-loop-i.ensures.value in
    record { so_far = cc; bounded = omega (arith, c.square.ensures.below, c.square-in-loop-i.ensures.below) }

pub returns-clause-sum : goal.returns-clause-sum
returns-clause-sum c =
    let re = c.args.re.now in
    let im = c.args.im.now in
    let whole = take_all c.loop-i.i (complexes re im) (omega (arith, length-complexes re im)) in
    c.loop-i.invariant.so_far ∙ ap energy whole
