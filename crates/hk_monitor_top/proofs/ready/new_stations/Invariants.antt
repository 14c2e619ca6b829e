-- So many stations are there, each with its number.
use Rattle.std.proofs.Common.{◌≡◌, ◌≤◌, length}
use Rattle.std.specs.Prelude.{vec_capacity}
use Rattle.hk_monitor_top.specs.Ready.{rules_by, AreNumbered}
use Rattle.hk_monitor_top.proofs.ready.new_stations.Given as goal

abbrev pub invariant-loop-number : goal.invariant-loop-number
invariant-loop-number l = record {
  count : length l.stations.items ≡ l.number;
  room : l.fn.plan.stations ≤ vec_capacity l.stations;
  numbered : AreNumbered (rules_by l.fn.plan) l.stations.items;
}
