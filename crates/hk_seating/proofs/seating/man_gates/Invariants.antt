-- The gates that are left, and behind them those of the workers so far from the last on, are all; and so with the benches.
use Rattle.std.proofs.Common.{◌≡◌, ◌≤◌, ◌+◌, ◌++◌, map, reverse, length}
use Rattle.std.specs.Prelude.{vec_len, vec_capacity}
use Rattle.hk_seating.specs.Seating.{gates_of}
use Rattle.hk_seating.proofs.seating.man_gates.Given as goal

abbrev pub invariant-loop-gate : goal.invariant-loop-gate
invariant-loop-gate g l = record {
  gates : l.gates.items ++ reverse (gates_of l.crew.items) ≡ l.fn.gates.items;
  seats : map (λ bench. bench.seats) l.benches.items ++ reverse (map (λ worker. worker.seats) l.crew.items) ≡ map (λ bench. bench.seats) l.fn.benches.items;
  scratches : map (λ bench. bench.scratch) l.benches.items ++ reverse (map (λ worker. worker.scratch) l.crew.items) ≡ map (λ bench. bench.scratch) l.fn.benches.items;
  as_many : length l.benches.items ≡ length l.gates.items;
  room : length l.gates.items + length l.crew.items ≤ vec_capacity l.crew;
  gates_room : vec_capacity l.gates ≡ vec_capacity l.fn.gates;
}

abbrev pub decreases-loop-gate : goal.decreases-loop-gate
decreases-loop-gate g l = vec_len l.gates
