use Rattle.std.proofs.Common.{◌≡◌, ◌≤◌, [], length, All}
use Rattle.std.specs.Prelude.{vec_capacity}
use Rattle.hk_seating.proofs.tests.benches.Given as goal

-- so many so far
abbrev pub invariant-loop-number : goal.invariant-loop-number
invariant-loop-number l = record {
  count : length l.benches.items ≡ l.number;
  empty : All (λ bench. bench.seats.items ≡ []) l.benches.items;
  room : All (λ bench. l.fn.stations ≤ vec_capacity bench.seats) l.benches.items;
}
