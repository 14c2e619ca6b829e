-- What is left of the walk is what was left, and each node that was visited is a tick.
use Rattle.std.proofs.Common.{◌≡◌, ◌+◌, length}
use Rattle.hk_table.specs.Walks.{as_course, rest_at, IsWalk}
use Rattle.hk_table.proofs.walk.Walk.advance.Given as goal

abbrev pub decreases-loop-self : goal.decreases-loop-self
decreases-loop-self g l = length (rest_at l.self-inside.nodes.now l.self-inside.at)

abbrev pub invariant-loop-self : goal.invariant-loop-self
invariant-loop-self g l = record {
  walk : IsWalk l.self-inside;
  places : (as_course l.self-inside).places ≡ l.fn.self.places;
  ticks : l.steps + (as_course l.self-inside).nodes ≡ l.fn.steps + l.fn.self.nodes;
}
