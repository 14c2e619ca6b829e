-- What a door in memory tells.
use Rattle.std.specs.Prelude.{◌≡◌, ℕ, ◌||◌, Bool, List, [], map, Option, Some, None, option_map, is_none, slice_get}
use Rattle.std.specs.Option.{option_map_or}
use Rattle.hk_base.specs.Memory.{bytes_left, bytes_written}
use Rattle.hk_base.specs.declared.memory.MemorySource.{MemorySource}
use Rattle.hk_base.specs.declared.memory.MemorySink.{MemorySink}
use Rattle.hk_outside.specs.Doors.{Told, Pair, HeldGate, Doorway, plan_of}
use Rattle.hk_outside.specs.Memory.{call_fails, IsNewFailing}
use Rattle.hk_outside.specs.Places.{inside_of}
use Rattle.hk_outside.specs.declared.door.Held.TheVariants as held
use Rattle.hk_outside.specs.declared.door.Start.TheVariants as starts
use Rattle.hk_outside.specs.declared.place.Place.{Place}
use Rattle.hk_outside.specs.declared.place.Place.TheVariants.{Inside, Outside, Back}
use Rattle.hk_outside.specs.declared.memory_link.MemoryLink.{MemoryLink}
use Rattle.hk_outside.specs.declared.memory_gate.MemoryGate.{MemoryGate}
use Rattle.hk_outside.specs.declared.memory_door.MemoryDoor.{MemoryDoor}

-- what is told of an object in memory
abbrev pub told_link : MemoryLink → Told
told_link link = record { bytes = Some (bytes_left link.source); faults = link.faults }

abbrev pub told_source : MemorySource → Told
told_source source = record { bytes = Some (bytes_left source); faults = source.faults }

abbrev pub told_sink : MemorySink → Told
told_sink sink = record { bytes = Some (bytes_written sink); faults = sink.faults }

-- what is told of an object that isn't there
abbrev pub nothing_told : Told
nothing_told = record { bytes = None; faults = 0 }

module _ {A B : Type 0} (gives : A → Told) (takes : B → Told) where
  -- what is told of two objects, wherever they are
  abbrev pub pair_at : Place (A × B) → Pair
  pair_at (Inside p) = record { held = held.Inside; gives = gives p.0; takes = takes p.1 }
  pair_at Outside = record { held = held.Outside; gives = nothing_told; takes = nothing_told }
  pair_at (Back p) = record { held = held.Back; gives = gives p.0; takes = takes p.1 }

-- what is told of a gate
abbrev pub gate_at : Place MemoryGate → HeldGate
gate_at (Inside gate) = record { held = held.Inside; faults = gate.faults }
gate_at Outside = record { held = held.Outside; faults = 0 }
gate_at (Back gate) = record { held = held.Back; faults = gate.faults }

-- what is told of all that a door in memory has; what it was never given is inside, and nothing is told of it
abbrev pub doorway_of : MemoryDoor → Doorway
doorway_of door = record {
  start = door.start;
  plan = option_map plan_of door.plan;
  faults = door.faults;
  calls = door.asked.made.items;
  stations = λ n. option_map_or (pair_at told_link told_sink) (slice_get door.stations.items n) (record { held = held.Inside; gives = nothing_told; takes = nothing_told });
  operator = pair_at told_source told_sink door.operator;
  gates = λ w. option_map_or gate_at (slice_get door.gates.items w) (record { held = held.Inside; faults = 0 });
}

-- the next call of a door is one that is to fail, or asks for what isn't there
abbrev pub ask_fails : {T : Type 0} → MemoryDoor → Option (Place T) → Bool
ask_fails door place = call_fails door.counted || is_none (option_map_or inside_of place None)

-- a new door with these objects, and whose calls with these numbers fail
pub record IsNewDoor (stations : List (MemoryLink × MemorySink)) (operator : MemorySource × MemorySink) (gates : List MemoryGate) (failing : List ℕ) (door : MemoryDoor) : Type 0 where
  pub start : door.start ≡ starts.Unstarted
  pub plan : door.plan ≡ None
  pub calls : door.asked.made.items ≡ []
  pub counted : IsNewFailing failing door.counted
  pub faults : door.faults ≡ 0
  pub stations_are : door.stations.items ≡ map Inside stations
  pub operator_is : door.operator ≡ Inside operator
  pub gates_are : door.gates.items ≡ map Inside gates
