use Rattle.std.proofs.Common.{◌≡◌, ◌<◌, ◌≢◌, ◌+◌, ◌^◌, ◌∙◌, ap, sym, subst, length, get_or, set, ℕ, arith, below_more, get_or-set_same, get_or-set_other, length-set}
use Rattle.std.specs.List.{slice_range}
use Rattle.std.proofs.lemmas.List.{same_lists, get_or_default}
use Rattle.hk_spec_sound.specs.Prints.{full_analysis}
use Rattle.hk_spec_sound.specs.Spectrum.{complexes, energies, energy}
use Rattle.hk_spec_sound.proofs.Edges.{length-edges}
use Rattle.hk_spec_sound.proofs.Spectra.{range-complexes, length-energies, get_or-energies}
use Rattle.hk_bands.proofs.energies.band_energies.Goals as goal

pub loop-m-preserved : goal.loop-m-preserved
loop-m-preserved c =
    let re = c.args.re.now in
    let im = c.args.im.now in
    let m = c.loop-m.m in
    let band = c.loop-m.band in
    let inside : m < length band = omega (arith, c.loop-m.invariant.all) in
    let written : get_or (set band m c.energy.result) m 0 ≡ c.energy.result = get_or-set_same band m c.energy.result 0 inside in
    let edges = full_analysis.edges in
    let low = c.bins_of-bins.result.low in
    let high = c.bins_of-bins.result.high in
    let wanted : get_or (energies edges (complexes re im)) m 0 ≡ c.energy.result =
    get_or-energies edges (complexes re im) m 0 (omega (arith, length-edges))
    ∙ ap (λ a. energy (slice_range (complexes re im) a (get_or edges (m + 1) 0))) (sym c.bins_of-bins.ensures.low)
    ∙ ap (λ b. energy (slice_range (complexes re im) low b)) (sym c.bins_of-bins.ensures.high)
    ∙ ap energy (range-complexes re im low high) ∙ sym c.energy.ensures.sum in
    record {
      all = length-set band m c.energy.result ∙ c.loop-m.invariant.all;
      bands = below_more _ _
          (λ k low. let other : k ≢ m = omega arith in rw get_or-set_other (c.loop-m.invariant.bands k low))
          (written ∙ sym wanted);
      below = below_more _ _
          (λ k low. let other : k ≢ m = omega arith in rw get_or-set_other (c.loop-m.invariant.below k low))
          (let P : ℕ → Type 0 = λ e. e < 2 ^ 80 in subst P (sym written) c.energy.ensures.below);
    }

pub returns-clause-bands : goal.returns-clause-bands
returns-clause-bands c =
    let wanted = energies full_analysis.edges (complexes c.args.re.now c.args.im.now) in
    same_lists c.loop-m.band wanted (c.loop-m.invariant.all ∙ omega (arith, length-edges, length-energies full_analysis.edges (complexes c.args.re.now c.args.im.now)))
    (λ k d low. let here : k < 33 = omega (arith, c.loop-m.invariant.all) in
    get_or_default c.loop-m.band k d 0 low ∙ c.loop-m.invariant.bands k (omega arith) ∙ get_or_default wanted k 0 d (omega (arith, length-edges, length-energies full_analysis.edges (complexes c.args.re.now c.args.im.now))))

pub returns-clause-below : goal.returns-clause-below
returns-clause-below c = λ k d low.
    let here : k < 33 = omega (arith, c.loop-m.invariant.all) in
    let P : ℕ → Type 0 = λ e. e < 2 ^ 80 in
    subst P (get_or_default c.loop-m.band k 0 d low) (c.loop-m.invariant.below k (omega arith))
