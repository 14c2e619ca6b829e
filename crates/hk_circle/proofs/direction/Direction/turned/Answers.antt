use Rattle.std.proofs.Common.{rules}
use Rattle.hk_circle.proofs.direction.Direction.turned.Goals as goal
use Rattle.hk_circle.proofs.direction.Direction.turned.Goals.{in-0, in-1, in-2, in_default}

pub invariant_of-result : goal.invariant_of-result
invariant_of-result c = elim c.match-turns.branch [ in-0 w ↦ search rules | in-1 w ↦ search rules | in-2 w ↦ search rules | in_default w ↦ search rules ]

pub returns : goal.returns
returns c = elim c.match-turns.branch [ in-0 w ↦ search rules | in-1 w ↦ search rules | in-2 w ↦ search rules | in_default w ↦ search rules ]
