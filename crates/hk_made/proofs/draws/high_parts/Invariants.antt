-- What is drawn, and what is still to come.
use Rattle.std.proofs.Common.{◌≡◌, ◌<◌, ◌^◌, ◌-◌, ◌++◌}
use Rattle.hk_spec_made.specs.Input.{high_parts}
use Rattle.hk_made.proofs.draws.high_parts.Given as goal

abbrev pub invariant-loop-draw : goal.invariant-loop-draw
invariant-loop-draw l = record {
  below : l.state < 2 ^ 31;
  drawn : l.highs.items ++ high_parts l.state (l.count - l._draw) ≡ high_parts l.seed l.count;
}
