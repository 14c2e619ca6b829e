use Rattle.std.proofs.Common.{◌≡◌, ◌≤◌, length}
use Rattle.std.specs.Prelude.{vec_capacity}
use Rattle.hk_seating.proofs.tests.views.Given as goal

-- so many so far
abbrev pub invariant-loop-number : goal.invariant-loop-number
invariant-loop-number l = record {
  count : length l.views.items ≡ l.number;
  room : l.fn.stations ≤ vec_capacity l.views;
}
