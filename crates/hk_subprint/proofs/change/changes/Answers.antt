use Rattle.std.proofs.Common.{rules, ◌≡◌, ◌<◌, ◌≢◌, ◌^◌, ◌∙◌, ◌-ℤ◌, ap, sym, subst, pos, nat_abs, length, get_or, set, ℤ, arith, below_more, get_or-set_same, get_or-set_other, length-set, FitsSigned, to_z, of_z}
use Rattle.std.proofs.lemmas.List.{same_lists, get_or_default}
use Rattle.std.specs.Int.{w128}
use Rattle.std.proofs.lemmas.Int.{to_z-of_z, fits_signed_from_abs}
use Rattle.hk_spec_sound.specs.Prints.{differences}
use Rattle.hk_spec_sound.proofs.Magnitudes.{nat_abs-sub}
use Rattle.hk_subprint.proofs.EachDifference.{fall_at, length-differences, get_or-differences}
use Rattle.hk_subprint.proofs.change.changes.Goals as goal

pub loop-m-preserved : goal.loop-m-preserved
loop-m-preserved c =
    let now = c.args.now.now in
    let before = c.args.before.now in
    let m = c.loop-m.m in
    let so_far = c.loop-m.differences in
    let a = c.fall.result in
    let b = c.fall-in-loop-m.result in
    let a_fits : FitsSigned w128 a = search rules in
    let b_fits : FitsSigned w128 b = search rules in
    let within : nat_abs (a -ℤ b) < 2 ^ 82 = omega (arith, nat_abs-sub a b, c.fall.ensures.below, c.fall-in-loop-m.ensures.below) in
    let fits : FitsSigned w128 (a -ℤ b) = fits_signed_from_abs w128 (a -ℤ b) (omega (arith, within)) in
    let z = to_z w128 (of_z w128 (to_z w128 (of_z w128 a) -ℤ to_z w128 (of_z w128 b))) in
    let z_is : z ≡ a -ℤ b = simp to_z-of_z in
    let inside : m < length so_far = omega (arith, c.loop-m.invariant.all) in
    let written : get_or (set so_far m z) m (pos 0) ≡ a -ℤ b = get_or-set_same so_far m z (pos 0) inside ∙ z_is in
    let all_now : length now ≡ 33 = search rules in
    let all_before : length before ≡ 33 = search rules in
    let wanted : get_or (differences before now) m (pos 0) ≡ a -ℤ b = get_or-differences before now 32 m all_before all_now (omega arith)
    ∙ ap (λ f. f -ℤ fall_at before m) (sym c.fall.ensures.value) ∙ ap (λ f. a -ℤ f) (sym c.fall-in-loop-m.ensures.value) in
    record {
      all = length-set so_far m z ∙ c.loop-m.invariant.all;
      same = below_more _ _
          (λ k low. let other : k ≢ m = omega arith in rw get_or-set_other (c.loop-m.invariant.same k low))
          (written ∙ sym wanted);
      below = below_more _ _
          (λ k low. let other : k ≢ m = omega arith in rw get_or-set_other (c.loop-m.invariant.below k low))
          (let P : ℤ → Type 0 = λ d. nat_abs d < 2 ^ 82 in subst P (sym written) within);
    }

pub returns-clause-differences : goal.returns-clause-differences
returns-clause-differences c =
    let now = c.args.now.now in
    let before = c.args.before.now in
    let all_now : length now ≡ 33 = search rules in
    let all_before : length before ≡ 33 = search rules in
    let all = length-differences before now 32 all_before all_now in
    same_lists c.loop-m.differences (differences before now) (c.loop-m.invariant.all ∙ sym all)
    (λ k d low. let here : k < 32 = omega (arith, c.loop-m.invariant.all) in
    get_or_default c.loop-m.differences k d (pos 0) low ∙ c.loop-m.invariant.same k (omega arith)
    ∙ get_or_default (differences before now) k (pos 0) d (omega (arith, all)))

pub returns-clause-below : goal.returns-clause-below
returns-clause-below c = λ k d low.
    let here : k < 32 = omega (arith, c.loop-m.invariant.all) in
    let P : ℤ → Type 0 = λ e. nat_abs e < 2 ^ 82 in
    subst P (get_or_default c.loop-m.differences k (pos 0) d low) (c.loop-m.invariant.below k (omega arith))
