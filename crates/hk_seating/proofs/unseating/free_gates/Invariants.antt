-- The gates of the workers that are left, and behind them those that are free from the last on, are all.
use Rattle.std.proofs.Common.{◌≡◌, ◌≤◌, ◌+◌, ◌++◌, reverse, length}
use Rattle.std.specs.Prelude.{vec_len, vec_capacity}
use Rattle.hk_seating.specs.Seating.{gates_of}
use Rattle.hk_seating.proofs.unseating.free_gates.Given as goal

abbrev pub invariant-loop-worker : goal.invariant-loop-worker
invariant-loop-worker g l = record {
  gates : gates_of l.crew.items ++ reverse l.gates.items ≡ gates_of l.fn.crew.items;
  room : length l.crew.items + length l.gates.items ≤ vec_capacity l.gates;
}

abbrev pub decreases-loop-worker : goal.decreases-loop-worker
decreases-loop-worker g l = vec_len l.crew
