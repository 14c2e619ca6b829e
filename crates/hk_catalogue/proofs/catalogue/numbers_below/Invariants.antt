-- The numbers before this one are there, and there is room for all.
use Rattle.std.proofs.Common.{◌≡◌, ◌≤◌, length}
use Rattle.std.specs.Prelude.{vec_capacity}
use Rattle.hk_catalogue.specs.Shelves.{IsCounting}
use Rattle.hk_catalogue.proofs.catalogue.numbers_below.Given as goal

abbrev pub invariant-loop-number : goal.invariant-loop-number
invariant-loop-number l = record {
  count : length l.numbers.items ≡ l.number;
  numbers : IsCounting l.numbers.items;
  room : l.fn.count ≤ vec_capacity l.numbers;
}
