use Rattle.std.proofs.Common.{ap, sym, ◌∙◌, add-one}
use Rattle.hk_spec_sound.specs.Circle.{quarter, refined}
use Rattle.hk_circle.specs.Points.{pairs}
use Rattle.hk_circle.proofs.quarter.Quarter.new.Goals as goal

pub loop-level-preserved : goal.loop-level-preserved
unfolding quarter
loop-level-preserved c =
    c.in_ok-points-2.ensures ∙ ap (λ ps. refined (pairs ps)) c.deref.ensures.value ∙ ap refined c.loop-level.invariant
    ∙ sym (ap quarter (add-one c.loop-level._level))
