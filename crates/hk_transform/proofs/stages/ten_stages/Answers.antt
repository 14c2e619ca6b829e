use Rattle.std.proofs.Common.{◌≡◌, ◌+◌, ◌-◌, ◌*◌, ◌/◌, ◌^◌, ◌≤◌, map, sym, ap, refl, ◌∙◌, arith}
use Rattle.hk_circle.proofs.Filling.{doubled}
use Rattle.hk_spec_sound.specs.Circle.{quarter}
use Rattle.hk_spec_sound.specs.Spectrum.{complexes, transform}
use Rattle.hk_transform.specs.Parts.{joined_lists, parts_of}
use Rattle.hk_transform.proofs.Parts.{map_none, next_stage, last_halves, blocks_of}
use Rattle.hk_transform.proofs.stages.ten_stages.Goals as goal

pub loop-before-init : goal.loop-before-init
loop-before-init c = record {
  few = omega arith;
  half = refl;
  re_len = c.stage-2.ensures.re_len ∙ c.stage.ensures.re_len ∙ c.requires.re_len;
  im_len = c.stage-2.ensures.im_len ∙ c.stage.ensures.im_len ∙ c.requires.im_len;
  spectrum = λ items len first.
      let none = first ∙ ap joined_lists (sym (map_none (parts_of 11 items))) in
      let one = next_stage 0 1 1024 (complexes c.args.re.now c.args.im.now) (complexes c.stage.new.re c.stage.new.im) items (omega arith) refl refl len
      none c.stage.ensures.joined in
      next_stage 1 2 512 (complexes c.stage.new.re c.stage.new.im) (complexes c.stage-2.new.re c.stage-2.new.im) items (omega arith) refl refl len
      one c.stage-2.ensures.joined;
  re_below = c.stage-2.ensures.re_below;
  im_below = c.stage-2.ensures.im_below;
}

pub stage-requires-in-loop-before-clause-re_len : goal.stage-requires-in-loop-before-clause-re_len
stage-requires-in-loop-before-clause-re_len c =
    let few : c.loop-before.before ≤ 10 = omega arith in
    c.loop-before.invariant.re_len ∙ sym ((blocks_of c.loop-before.before few).1) ∙ sym (ap (λ h. 1024 / h * (h + h)) c.loop-before.invariant.half)

pub stage-requires-in-loop-before-clause-im_len : goal.stage-requires-in-loop-before-clause-im_len
stage-requires-in-loop-before-clause-im_len c =
    let few : c.loop-before.before ≤ 10 = omega arith in
    c.loop-before.invariant.im_len ∙ sym ((blocks_of c.loop-before.before few).1) ∙ sym (ap (λ h. 1024 / h * (h + h)) c.loop-before.invariant.half)

pub loop-before-preserved : goal.loop-before-preserved
loop-before-preserved c =
    let b = c.loop-before.before in
    let half = c.loop-before.half in
    let inv = c.loop-before.invariant in
    let few : b ≤ 10 = omega arith in
    let twice : half + half ≡ 2 ^ (b + 1) = ap (λ h. h + h) inv.half ∙ sym (doubled b) in
    record {
      few = omega arith;
      half = omega (arith, twice);
      re_len = c.stage-in-loop-before.ensures.re_len ∙ inv.re_len;
      im_len = c.stage-in-loop-before.ensures.im_len ∙ inv.im_len;
      spectrum = λ items len first.
          next_stage b half (1024 / half) (complexes c.loop-before.re c.loop-before.im) (complexes c.stage-in-loop-before.new.re c.stage-in-loop-before.new.im) items
          few inv.half refl len (inv.spectrum items len first) c.stage-in-loop-before.ensures.joined;
      re_below = c.stage-in-loop-before.ensures.re_below;
      im_below = c.stage-in-loop-before.ensures.im_below;
    }

pub returns-clause-halves : goal.returns-clause-halves
returns-clause-halves c = λ items len first.
    let done : c.loop-before.before ≡ 10 = omega (arith, c.loop-before.invariant.few) in
    c.loop-before.invariant.spectrum items len first
    ∙ ap (λ b. joined_lists (map (transform (quarter 9) b) (parts_of (11 - b) items))) done
    ∙ last_halves items
