-- The stations so far were asked for and are out.
use Rattle.std.proofs.Common.{◌≡◌, ◌≤◌, ◌++◌, [], map, length}
use Rattle.std.specs.Prelude.{vec_capacity}
use Rattle.std.specs.List.{range_with_len}
use Rattle.hk_outside.specs.declared.door.Ask.TheVariants as asks
use Rattle.hk_spec_monitor.specs.Devices.{granted}
use Rattle.hk_opening.specs.Handing.{StationsAreOut, GatesAreOut, SameStart}
use Rattle.hk_opening.proofs.asking.open_stations.Given as goal

abbrev pub invariant-loop-number : goal.invariant-loop-number
invariant-loop-number g l = record {
  asked : (g.D.Door.doorway l.door).calls ≡ (g.D.Door.doorway l.fn.door).calls ++ granted (map asks.Station (range_with_len 0 l.number));
  start : SameStart (g.D.Door.doorway l.fn.door) (g.D.Door.doorway l.door);
  out : StationsAreOut g.D.Link.Link g.D.Log.Sink l.stations.items (g.D.Door.doorway l.fn.door) (g.D.Door.doorway l.door);
  count : length l.stations.items ≡ l.number;
  room : l.fn.count ≤ vec_capacity l.stations;
  operator : (g.D.Door.doorway l.door).operator ≡ (g.D.Door.doorway l.fn.door).operator;
  gates : GatesAreOut g.D.Gate.Gate.faults [] (g.D.Door.doorway l.fn.door) (g.D.Door.doorway l.door);
  counts_failures : (g.D.Door.doorway l.door).faults ≡ (g.D.Door.doorway l.fn.door).faults;
}
