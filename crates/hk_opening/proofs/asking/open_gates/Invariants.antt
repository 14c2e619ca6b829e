-- The gates so far were asked for and are out.
use Rattle.std.proofs.Common.{◌≡◌, ◌≤◌, ◌++◌, ℕ, map, length}
use Rattle.std.specs.Prelude.{vec_capacity}
use Rattle.std.specs.List.{range_with_len}
use Rattle.hk_outside.specs.Doors.{gates_asked, gates_given}
use Rattle.hk_outside.specs.declared.door.Ask.TheVariants as asks
use Rattle.hk_spec_monitor.specs.Devices.{granted}
use Rattle.hk_opening.specs.Handing.{GatesAreOut, SameStart}
use Rattle.hk_opening.proofs.asking.open_gates.Given as goal

abbrev pub invariant-loop-number : goal.invariant-loop-number
invariant-loop-number g l = record {
  asked : (g.D.Door.doorway l.door).calls ≡ (g.D.Door.doorway l.fn.door).calls ++ granted (map asks.Gate (range_with_len 0 l.number));
  counted : gates_asked (g.D.Door.doorway l.door).calls ≡ l.number;
  given : gates_given (g.D.Door.doorway l.door).calls ≡ l.number;
  start : SameStart (g.D.Door.doorway l.fn.door) (g.D.Door.doorway l.door);
  out : GatesAreOut g.D.Gate.Gate.faults l.gates.items (g.D.Door.doorway l.fn.door) (g.D.Door.doorway l.door);
  count : length l.gates.items ≡ l.number;
  room : l.fn.count ≤ vec_capacity l.gates;
  operator : (g.D.Door.doorway l.door).operator ≡ (g.D.Door.doorway l.fn.door).operator;
  stations : (n : ℕ) → (g.D.Door.doorway l.door).stations n ≡ (g.D.Door.doorway l.fn.door).stations n;
  counts_failures : (g.D.Door.doorway l.door).faults ≡ (g.D.Door.doorway l.fn.door).faults;
}
