use Rattle.std.proofs.Common.{◌≡◌, ◌≤◌, length}
use Rattle.std.specs.Prelude.{vec_capacity}
use Rattle.hk_seating.proofs.tests.gates.Given as goal

-- so many so far
abbrev pub invariant-loop-number : goal.invariant-loop-number
invariant-loop-number l = record {
  count : length l.gates.items ≡ l.number;
  room : l.fn.workers ≤ vec_capacity l.gates;
}
