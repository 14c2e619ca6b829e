use Rattle.std.proofs.Common.{rules, ◌≡◌, ◌+◌, [], ◌∷◌, ◌++◌, drop, ap, sym, ◌∙◌, arith}
use Rattle.hk_spec_sound.specs.Circle.{refined}
use Rattle.hk_circle.specs.Points.{pairs}
use Rattle.hk_circle.proofs.Refining.{refining_more, refining_last, refining_done}
use Rattle.hk_circle.proofs.quarter.refined.Goals as goal
use Rattle.hk_circle.proofs.quarter.refined.Goals.{else-i-points-via-then-i-points+else-is_err-2, else-i-points-via-else-i-points}

pub loop-i-init : goal.loop-i-init
unfolding pairs
loop-i-init c = search rules

pub loop-i-preserved : goal.loop-i-preserved
loop-i-preserved c =
    let points = c.args.points.now in
    let i = c.loop-i.i in
    let finer = c.loop-i.finer.items in
    let u = c.index-points-i.result in
    let pushed : c.push.new.self.items ≡ finer ++ u ∷ [] = search rules in
    elim c.else-i-points.branch [
      | else-i-points-via-then-i-points+else-is_err-2 w ↦
          let next = w.index-points-i-then-i-points in
          let both : w.push-then-i-points.new.self.items ≡ (finer ++ u ∷ []) ++ w.midpoint.result ∷ [] = search rules in
          ap (λ v. pairs v.items ++ refined (drop (i + 1) (pairs points))) w.finer-is
          ∙ ap (λ ps. pairs ps ++ refined (drop (i + 1) (pairs points))) both
          ∙ refining_more finer points i u next.result w.midpoint.result w.if-i-points.true c.index-points-i.is next.is w.midpoint.ensures
          ∙ c.loop-i.invariant
      | else-i-points-via-else-i-points w ↦
          ap (λ v. pairs v.items ++ refined (drop (i + 1) (pairs points))) w.finer-is
          ∙ ap (λ ps. pairs ps ++ refined (drop (i + 1) (pairs points))) pushed
          ∙ refining_last finer points i u (omega (arith, w.if-i-points.false, c.loop-i-test.true)) c.index-points-i.is
          ∙ c.loop-i.invariant
    ]

pub returns : goal.returns
returns c = sym (refining_done c.loop-i.finer.items c.args.points.now c.loop-i.i (omega arith)) ∙ c.loop-i.invariant
