use Rattle.std.proofs.Common.{rules}
use Rattle.hk_circle.specs.Points.{pairs}
use Rattle.hk_spec_sound.specs.Circle.{quarter}
use Rattle.hk_circle.proofs.quarter.ends.Goals as goal

pub returns : goal.returns
unfolding pairs quarter
returns c = search rules
