use Rattle.std.proofs.Common.{rules, ◌≢◌, ◌<◌, w32, w64, FitsSigned, pos, length, get_or, sym, ap, ◌∙◌, arith, below_more, get_or-set_same, get_or-set_other}
use Rattle.std.proofs.lemmas.Int.{to_z-of_z}
use Rattle.std.proofs.lemmas.List.{get_or_default}
use Rattle.hk_transform.specs.Parts.{reversed}
use Rattle.hk_transform.proofs.Joining.{below_at}
use Rattle.hk_transform.proofs.Reversing.{reversed_below}
use Rattle.hk_transform.proofs.order.load_reversed.Goals as goal

pub offset_bounds-frame-order : goal.offset_bounds-frame-order
offset_bounds-frame-order c =
    let k = c.loop-k.k in
    omega (arith, reversed_below 11 k (omega arith), c.requires.order k (omega arith))

pub bounds-frame-order : goal.bounds-frame-order
bounds-frame-order c =
    let k = c.loop-k.k in
    omega (arith, reversed_below 11 k (omega arith), c.requires.order k (omega arith), c.requires.frame_len)

pub narrowed-requires : goal.narrowed-requires
narrowed-requires c =
    let k = c.loop-k.k in
    let at = get_or c.args.order.now k 0 in
    let inside : at < 2048 = omega (arith, reversed_below 11 k (omega arith), c.requires.order k (omega arith)) in
    let fits : FitsSigned w64 (get_or c.args.frame.now at (pos 0)) = search rules in
    simp to_z-of_z (omega (arith, below_at 32769 c.args.frame.now at (omega (arith, inside, c.requires.frame_len)) c.requires.frame_within))

pub loop-k-preserved : goal.loop-k-preserved
loop-k-preserved c =
    let k = c.loop-k.k in
    let at = get_or c.args.order.now k 0 in
    let inside : k < length c.loop-k.into = omega arith in
    let read : FitsSigned w64 (get_or c.args.frame.now at (pos 0)) = search rules in
    let fits : FitsSigned w32 c.narrowed.result = search rules in
    let is = simp to_z-of_z at c.narrowed.ensures ∙ ap (λ i. get_or c.args.frame.now i (pos 0)) (c.requires.order k (omega arith)) in
    record {
      len = search rules;
      done = below_more _ _
          (λ j before. let other : j ≢ k = omega arith in rw get_or-set_other (c.loop-k.invariant.done j before))
          (rw get_or-set_same (simp to_z-of_z is));
    }

pub returns-clause-reversed : goal.returns-clause-reversed
returns-clause-reversed c = λ k d inside.
    let there : reversed 11 k < 2048 = reversed_below 11 k inside in
    sym (get_or_default c.loop-k.into k (pos 0) d (omega (arith, inside, c.loop-k.invariant.len)))
    ∙ c.loop-k.invariant.done k (omega (arith, inside))
    ∙ get_or_default c.args.frame.now (reversed 11 k) (pos 0) d (omega (arith, there, c.requires.frame_len))
