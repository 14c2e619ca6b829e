use Rattle.std.proofs.Common.{◌≡◌, ◌++◌, drop}
use Rattle.hk_spec_sound.specs.Circle.{refined}
use Rattle.hk_circle.specs.Points.{pairs}
use Rattle.hk_circle.proofs.quarter.refined.Given as goal

-- what is there, and what is left to come
abbrev pub invariant-loop-i : goal.invariant-loop-i
invariant-loop-i l = pairs l.finer.items ++ refined (drop l.i (pairs l.points)) ≡ refined (pairs l.points)
