-- What was asked of a door in order, and what is out of it.
use Rattle.std.specs.Prelude.{◌≡◌, ◌⊎◌, ℕ, ◌≤◌, ◌<◌, true, List, ◌∷◌, ◌++◌, length, map, slice_get, Result, Ok, Err, Some}
use Rattle.hk_base.specs.Devices.{IsNothing}
use Rattle.hk_base.specs.declared.sink.Sink as sinks
use Rattle.hk_base.specs.declared.source.Source as sources
use Rattle.hk_outside.specs.declared.link.Link as links
use Rattle.std.specs.List.{All, range_with_len}
use Rattle.hk_outside.specs.Doors.{Doorway, Planned}
use Rattle.hk_outside.specs.declared.door.Ask.TheVariants as asks
use Rattle.hk_outside.specs.declared.door.Ask.{Ask}
use Rattle.hk_outside.specs.declared.door.Call.{Call}
use Rattle.hk_outside.specs.declared.door.Held.TheVariants.{Outside, Back}
use Rattle.hk_spec_monitor.specs.Devices.{granted, refused, UpToRefused}

-- All these were asked for in order and handed out, or those up to the first that was refused.
abbrev pub AskedFor : {T E : Type 0} → List Ask → Result T E → List Call → List Call → Type 0
AskedFor asked (Ok x) calls calls' = calls' ≡ calls ++ granted asked
AskedFor asked (Err e) calls calls' = UpToRefused asked calls calls'

-- so many of these were handed out, and the next was refused
abbrev pub until_refused : (ℕ → Ask) → ℕ → List Call
until_refused ask count = granted (map ask (range_with_len 0 count)) ++ refused (ask count)

-- an object that was handed out is one of the first so many stations or gates, or is the operator's, and back
abbrev pub IsAmong : ℕ → ℕ → Doorway → Ask → Type 0
IsAmong stations gates door (asks.Station n) = n < stations
IsAmong stations gates door asks.Operator = door.operator.held ≡ Back
IsAmong stations gates door (asks.Gate w) = w < gates

-- Of all that was handed out no more can be out than the first so many stations and gates.
abbrev pub OnlyTheseAreOut : ℕ → ℕ → Doorway → Type 0
OnlyTheseAreOut stations gates door = All (λ call. call.ok ≡ true → IsAmong stations gates door call.ask) door.calls

-- whether it was started, and its plan, stay
pub record SameStart (old new : Doorway) : Type 0 where
  pub start : new.start ≡ old.start
  pub plan : new.plan ≡ old.plan

-- The links and logs of the first stations are out, as they were inside, and the logs are empty. The other stations are as they were.
pub record StationsAreOut {K S : Type 0} (link : links.Ghosts K) (sink : sinks.Ghosts S) (pairs : List (K × S)) (old new : Doorway) : Type 0 where
  pub out : (n : ℕ) (pair : K × S) → slice_get pairs n ≡ Some pair → (new.stations n).held ≡ Outside
  pub link_told : (n : ℕ) (pair : K × S) → slice_get pairs n ≡ Some pair → record { bytes = link.left pair.0; faults = link.faults pair.0 } ≡ (old.stations n).gives
  pub log_told : (n : ℕ) (pair : K × S) → slice_get pairs n ≡ Some pair → record { bytes = sink.written pair.1; faults = sink.faults pair.1 } ≡ (old.stations n).takes
  pub log_empty : (n : ℕ) (pair : K × S) → slice_get pairs n ≡ Some pair → IsNothing (sink.written pair.1)
  pub others : (n : ℕ) → length pairs ≤ n → new.stations n ≡ old.stations n

-- The first gates are out, as they were inside. The others are as they were.
pub record GatesAreOut {G : Type 0} (faults : G → ℕ) (gates : List G) (old new : Doorway) : Type 0 where
  pub out : (w : ℕ) (gate : G) → slice_get gates w ≡ Some gate → (new.gates w).held ≡ Outside
  pub told : (w : ℕ) (gate : G) → slice_get gates w ≡ Some gate → faults gate ≡ (old.gates w).faults
  pub others : (w : ℕ) → length gates ≤ w → new.gates w ≡ old.gates w

-- what a door tells of itself stays
pub record SameDoor (old new : Doorway) : Type 0 where
  pub start : new.start ≡ old.start
  pub plan : new.plan ≡ old.plan
  pub faults : new.faults ≡ old.faults
  pub calls : new.calls ≡ old.calls

-- These links and logs are back, as they are. The other stations are as they were.
pub record StationsAreBack {K S : Type 0} (link : links.Ghosts K) (sink : sinks.Ghosts S) (pairs : List (K × S)) (old new : Doorway) : Type 0 where
  pub back : (n : ℕ) (pair : K × S) → slice_get pairs n ≡ Some pair → (new.stations n).held ≡ Back
  pub link_told : (n : ℕ) (pair : K × S) → slice_get pairs n ≡ Some pair → (new.stations n).gives ≡ record { bytes = link.left pair.0; faults = link.faults pair.0 }
  pub log_told : (n : ℕ) (pair : K × S) → slice_get pairs n ≡ Some pair → (new.stations n).takes ≡ record { bytes = sink.written pair.1; faults = sink.faults pair.1 }
  pub others : (n : ℕ) → length pairs ≤ n → new.stations n ≡ old.stations n

-- These gates are back, as they are. The others are as they were.
pub record GatesAreBack {G : Type 0} (faults : G → ℕ) (gates : List G) (old new : Doorway) : Type 0 where
  pub back : (w : ℕ) (gate : G) → slice_get gates w ≡ Some gate → (new.gates w).held ≡ Back
  pub told : (w : ℕ) (gate : G) → slice_get gates w ≡ Some gate → (new.gates w).faults ≡ faults gate
  pub others : (w : ℕ) → length gates ≤ w → new.gates w ≡ old.gates w

-- The operator's calls and replies are out, as they were inside, and the replies are empty.
pub record OperatorIsOut {C P : Type 0} (source : sources.Ghosts C) (sink : sinks.Ghosts P) (pair : C × P) (old new : Doorway) : Type 0 where
  pub out : new.operator.held ≡ Outside
  pub calls_told : record { bytes = source.left pair.0; faults = source.faults pair.0 } ≡ old.operator.gives
  pub replies_told : record { bytes = sink.written pair.1; faults = sink.faults pair.1 } ≡ old.operator.takes
  pub replies_empty : IsNothing (sink.written pair.1)

-- They weren't handed out, or are back as they were.
pub record OperatorIsUnused (old new : Doorway) : Type 0 where
  pub held : (new.operator.held ≡ old.operator.held) ⊎ (new.operator.held ≡ Back)
  pub calls : new.operator.gives ≡ old.operator.gives
  pub replies : new.operator.takes ≡ old.operator.takes

-- what opens a run of this plan, in this order
abbrev pub opening_of : Planned → List Ask
opening_of plan = map asks.Station (range_with_len 0 plan.stations) ++ asks.Operator ∷ map asks.Gate (range_with_len 0 plan.workers)
