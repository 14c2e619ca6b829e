-- A sample that is weighted stands at its place, and 2048 of them are the frame.
use Rattle.std.proofs.Common.{rules, ◌≡◌, ◌<◌, ◌≤◌, ◌*ℤ◌, ℕ, ℤ, pos, nat_abs, length, replicate, get_or, set, of_z, to_z, ap, sym, subst, ◌∙◌, arith, w32, w64, FitsSigned, below_more, get_or-set_same, get_or-set_other, ◌≢◌}
use Rattle.std.proofs.Math.ListN.{length-set}
use Rattle.std.proofs.lemmas.Bool.{leb-true}
use Rattle.std.proofs.lemmas.Int.{to_z-of_z}
use Rattle.std.proofs.lemmas.List.{same_lists, get_or_default, length-replicate, get_or-replicate}
use Rattle.std.proofs.lemmas.Option.{get_or_from_slice_get}
use Rattle.hk_spec_sound.specs.Numbers.{scaled_down}
use Rattle.hk_spec_sound.specs.Circle.{quarter, hann_of}
use Rattle.hk_spec_sound.specs.Spectrum.{complexes}
use Rattle.hk_spec_sound.specs.Prints.{windowed}
use Rattle.hk_spec_sound.proofs.Spectra.{paired, length-complexes, get_or-complexes}
use Rattle.hk_frames.specs.Recent.{Recent}
use Rattle.hk_spec_sound.proofs.Weighing.{length-windowed, get_or-windowed}
use Rattle.hk_frames.proofs.ring.Frames.windowed.Goals as goal

pub loop-n-preserved : goal.loop-n-preserved
loop-n-preserved c =
    let into = c.loop-n.into in
    let n = c.loop-n.n in
    let w = c.weighted.result in
    let last = c.args.self.now.last in
    let size : length into ≡ 2048 = c.loop-n.invariant.size in
    let inside : n < length into = omega arith in
    let sample_fits : FitsSigned w32 c.sample.result = search rules in
    let hann_fits : FitsSigned w64 c.hann.result = search rules in
    let w_fits : FitsSigned w64 w = search rules in
    let sample : c.sample.result ≡ get_or last n (pos 0) = sym (get_or_from_slice_get last n c.sample.result (pos 0) c.sample.ensures.sample) in
    let raw = simp to_z-of_z at c.weighted.ensures.value in
    let value : w ≡ scaled_down (get_or last n (pos 0) *ℤ hann_of (quarter 9) n) =
    raw ∙ ap (λ y. scaled_down (y *ℤ c.hann.result)) sample ∙ ap (λ h. scaled_down (get_or last n (pos 0) *ℤ h)) c.hann.ensures.value in
    let there : get_or (set into n (to_z w64 (of_z w64 w))) n (pos 0) ≡ w = get_or-set_same into n (to_z w64 (of_z w64 w)) (pos 0) inside ∙ to_z-of_z w64 w w_fits in
    let others : (k : ℕ) → k < n → get_or (set into n (to_z w64 (of_z w64 w))) k (pos 0) ≡ get_or into k (pos 0) =
    λ k below. (let other : k ≢ n = omega arith in get_or-set_other into n k (to_z w64 (of_z w64 w)) (pos 0) other) in
    let P : ℤ → Type 0 = λ z. nat_abs z ≤ 32768 in
    record {
      size = length-set into n (to_z w64 (of_z w64 w)) ∙ size;
      value = λ k low. below_more (λ k. get_or (set into n (to_z w64 (of_z w64 w))) k (pos 0) ≡ scaled_down (get_or last k (pos 0) *ℤ hann_of (quarter 9) k)) n
          (λ k below. others k below ∙ c.loop-n.invariant.value k below)
          (there ∙ value) k low;
      within = λ k low. below_more (λ k. P (get_or (set into n (to_z w64 (of_z w64 w))) k (pos 0))) n
          (λ k below. subst P (sym (others k below)) (c.loop-n.invariant.within k below))
          (subst P (sym there) c.weighted.ensures.within) k low;
    }

pub returns-clause-windowed : goal.returns-clause-windowed
returns-clause-windowed c =
    let into = c.loop-n.into in
    let last = c.args.self.now.last in
    let zeros = replicate 2048 (pos 0) in
    let size : length into ≡ 2048 = c.loop-n.invariant.size in
    let many : 2048 ≤ length last = leb-true _ _ c.requires.full in
    let few : length last ≤ 2048 = subst (λ (r : Recent). length r.last ≤ 2048) c.self.view_is c.self.invariant.3 in
    let long : length zeros ≡ 2048 = length-replicate 2048 (pos 0) in
    same_lists (complexes into zeros) (windowed (quarter 9) last) (omega (arith, length-complexes into zeros, length-windowed (quarter 9) last))
    (λ k d inside.
    let here : k < length into = omega (arith, length-complexes into zeros) in
    get_or-complexes into zeros k d here (omega arith)
    ∙ ap (λ z. paired (z, get_or zeros k d.im)) (get_or_default into k d.re (pos 0) here ∙ c.loop-n.invariant.value k (omega arith))
    ∙ ap (λ z. paired (scaled_down (get_or last k (pos 0) *ℤ hann_of (quarter 9) k), z)) (get_or-replicate 2048 k (pos 0) d.im (omega arith))
    ∙ sym (get_or-windowed (quarter 9) last k d (omega arith)))

pub returns-clause-within : goal.returns-clause-within
returns-clause-within c = λ k d inside.
    let into = c.loop-n.into in
    let size : length into ≡ 2048 = c.loop-n.invariant.size in
    let P : ℤ → Type 0 = λ z. nat_abs z < 32769 in
    subst P (get_or_default into k (pos 0) d inside) (let low : nat_abs (get_or into k (pos 0)) ≤ 32768 = c.loop-n.invariant.within k (omega arith) in omega (arith, low))
