-- What a door of real objects tells: no bytes, and their counts of faults once they are back.
use Rattle.std.specs.Prelude.{ℕ, List, [], Option, Some, None, option_map, slice_index_or}
use Rattle.hk_outside.specs.Doors.{Told, Pair, HeldGate, Doorway, Planned, plan_of}
use Rattle.hk_outside.specs.declared.door.Call.{Call}
use Rattle.hk_outside.specs.declared.door.Held.TheVariants as held
use Rattle.hk_outside.specs.declared.door.Start.{Start}
use Rattle.hk_outside.specs.declared.door.Start.TheVariants as starts
use Rattle.hk_mio.specs.declared.door.Seat.{Seat}
use Rattle.hk_mio.specs.declared.door.Seat.TheVariants as seats
use Rattle.hk_mio.specs.declared.door.State.{State}
use Rattle.hk_mio.specs.declared.door.State.TheVariants as states
use Rattle.hk_mio.specs.declared.door.NetDoor.{NetDoor}

-- what is told of an object with so many faults
abbrev pub counted : ℕ → Told
counted faults = record { bytes = None; faults = faults }

-- what is told of two objects that are handed out and back together
abbrev pub pair_at : Seat (ℕ × ℕ) → Pair
pair_at seats.Inside = record { held = held.Inside; gives = counted 0; takes = counted 0 }
pair_at seats.Outside = record { held = held.Outside; gives = counted 0; takes = counted 0 }
pair_at (seats.Back faults) = record { held = held.Back; gives = counted faults.0; takes = counted faults.1 }

-- what is told of a gate
abbrev pub gate_at : Seat ℕ → HeldGate
gate_at seats.Inside = record { held = held.Inside; faults = 0 }
gate_at seats.Outside = record { held = held.Outside; faults = 0 }
gate_at (seats.Back faults) = record { held = held.Back; faults = faults }

abbrev pub start_of : State → Start
start_of states.Unstarted = starts.Unstarted
start_of (states.Started opened) = starts.Started
start_of (states.Refused plan) = starts.Refused

abbrev pub plan_told : State → Option Planned
plan_told states.Unstarted = None
plan_told (states.Started opened) = Some (plan_of opened.plan)
plan_told (states.Refused plan) = option_map plan_of plan

abbrev pub calls_of : State → List Call
calls_of states.Unstarted = []
calls_of (states.Started opened) = opened.asked.made.items
calls_of (states.Refused plan) = []

abbrev pub doorway_of : {R : Type 0} → NetDoor R → Doorway
doorway_of door = record {
  start = start_of door.state;
  plan = plan_told door.state;
  faults = door.faults;
  calls = calls_of door.state;
  stations = λ n. pair_at (slice_index_or door.stations n seats.Inside);
  operator = pair_at door.operator;
  gates = λ w. gate_at (slice_index_or door.gates w seats.Inside);
}
