use Rattle.std.proofs.Common.{◌≡◌}
use Rattle.hk_spec_sound.specs.Circle.{quarter}
use Rattle.hk_circle.specs.Points.{pairs}
use Rattle.hk_circle.proofs.quarter.Quarter.new.Given as goal

abbrev pub invariant-loop-level : goal.invariant-loop-level
invariant-loop-level l = pairs l.points.items ≡ quarter l._level
