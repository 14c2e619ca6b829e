-- A run at the door: the calls that opened it, what was read and written, and that all was handed back.
use Rattle.std.specs.Prelude.{◌≡◌, ◌≢◌, ◌⊎◌, ℕ, ◌≤◌, ◌<◌, true, false, List, [], ◌∷◌, ◌++◌, map, length, Some, None}
use Rattle.std.specs.List.{All, range_with_len}
use Rattle.hk_base.specs.Devices.{Took, Wrote, Rose, IsNothing}
use Rattle.hk_spec_streams.specs.Station.{station_wrong}
use Rattle.hk_spec_streams.specs.Operator.{operator_wrong}
use Rattle.hk_spec_settings.specs.Settings.{Rules}
use Rattle.hk_outside.specs.Doors.{Doorway, Pair, Planned, held_at}
use Rattle.hk_outside.specs.declared.door.Ask.{Ask}
use Rattle.hk_outside.specs.declared.door.Ask.TheVariants as asks
use Rattle.hk_outside.specs.declared.door.Call.{Call}
use Rattle.hk_outside.specs.declared.door.Held.TheVariants.{Outside, Back}
use Rattle.hk_outside.specs.declared.door.Start.TheVariants.{Started, Refused}
use Rattle.hk_spec_monitor.specs.Run.{Run, EachStation, log_text, answers_text}
use Rattle.hk_spec_monitor.specs.Fences.{is_ahead}
use Rattle.hk_spec_monitor.specs.Summary.{all_ended}
use Rattle.hk_spec_monitor.specs.Setup.{Setup}

-- the plan that a setup gives to the door
abbrev pub planned : Setup → Planned
planned setup = record {
  stations = setup.rules.stations;
  workers = setup.workers;
  flips = setup.rules.setting.flips;
  hop = setup.rules.setting.block.hop;
  songs = setup.rules.limits.songs;
  positions = setup.rules.limits.positions;
  versions = setup.rules.limits.versions;
  bytes = setup.rules.bytes;
  address = setup.address;
  station_port = setup.station_port;
  operator_port = setup.operator_port;
  logs = setup.logs;
}

-- what opens a run, in this order: each station by its number, the operator, and a gate for each worker
abbrev pub asks_in_order : Setup → List Ask
asks_in_order setup = map asks.Station (range_with_len 0 setup.rules.stations) ++ asks.Operator ∷ map asks.Gate (range_with_len 0 setup.workers)

-- these were asked for and handed out
abbrev pub granted : List Ask → List Call
granted asked = map (λ ask. record { ask = ask; ok = true }) asked

-- these were refused
abbrev pub refused : Ask → List Call
refused ask = record { ask = ask; ok = false } ∷ []

-- These were asked for in order and handed out, up to the first that was refused.
pub record UpToRefused (asked : List Ask) (calls calls' : List Call) : Type 0 where
  pub given : List Ask
  pub ask : Ask
  pub later : List Ask
  pub order : asked ≡ given ++ ask ∷ later
  pub made : calls' ≡ calls ++ (granted given ++ refused ask)

-- The start was refused, and nothing was asked for; or the door was started, and asked for this in order up to the first that it refused.
abbrev pub WasRefused : List Ask → Doorway → Type 0
WasRefused asked door = ((door.start ≡ Refused) × (door.calls ≡ [])) ⊎ ((door.start ≡ Started) × UpToRefused asked [] door.calls)

-- The door was started, asked for all that opens a run, in order, and handed all out; or it refused.
abbrev pub IsInOrder : Setup → Doorway → Type 0
IsInOrder setup door = ((door.start ≡ Started) × (door.calls ≡ granted (asks_in_order setup))) ⊎ WasRefused (asks_in_order setup) door

-- Nothing was read or written of what the door hands out.
pub record IsUnused (old new : Doorway) : Type 0 where
  pub links : (n : ℕ) → (new.stations n).gives ≡ (old.stations n).gives
  pub logs : (n : ℕ) → (new.stations n).takes ≡ (old.stations n).takes
  pub calls : new.operator.gives ≡ old.operator.gives
  pub replies : new.operator.takes ≡ old.operator.takes
  pub gates : (w : ℕ) → (new.gates w).faults ≡ (old.gates w).faults

-- No object is out.
pub record HasAll (door : Doorway) : Type 0 where
  pub stations : (n : ℕ) → (door.stations n).held ≢ Outside
  pub operator : door.operator.held ≢ Outside
  pub gates : (w : ℕ) → (door.gates w).held ≢ Outside

-- All that was handed out is back.
abbrev pub AllAreBack : Doorway → Type 0
AllAreBack door = All (λ call. call.ok ≡ true → held_at call.ask door ≡ Back) door.calls

-- The door was started with the setup's plan; each station, the operator and each worker's gate was handed out, in order, and back.
-- Other stations and gates are as they were.
pub record WasUsed (setup : Setup) (old new : Doorway) : Type 0 where
  pub start : new.start ≡ Started
  pub plan : new.plan ≡ Some (planned setup)
  pub calls : new.calls ≡ granted (asks_in_order setup)
  pub stations : (n : ℕ) → n < setup.rules.stations → (new.stations n).held ≡ Back
  pub operator : new.operator.held ≡ Back
  pub gates : (w : ℕ) → w < setup.workers → (new.gates w).held ≡ Back
  pub other_stations : (n : ℕ) → setup.rules.stations ≤ n → new.stations n ≡ old.stations n
  pub other_gates : (w : ℕ) → setup.workers ≤ w → new.gates w ≡ old.gates w

-- The run's bytes were taken from the links and the calls, and its texts were written to the logs and the replies, in which nothing was.
pub record IsAtDoor (rules : Rules) (old new : Doorway) (run : Run) : Type 0 where
  pub count : length run.stations ≡ rules.stations
  pub links : EachStation run (λ n h. Took h.taken (old.stations n).gives.bytes (new.stations n).gives.bytes)
  pub fresh_logs : EachStation run (λ n h. IsNothing (old.stations n).takes.bytes)
  pub logs : EachStation run (λ n h. Wrote (log_text rules n h) (old.stations n).takes.bytes (new.stations n).takes.bytes)
  pub calls : Took run.operator.taken old.operator.gives.bytes new.operator.gives.bytes
  pub fresh_replies : IsNothing old.operator.takes.bytes
  pub replies : Wrote (answers_text rules run.operator) old.operator.takes.bytes new.operator.takes.bytes

-- a pair whose bytes are told and right, and of which no count rose
pub record IsSound (IsRight : List ℕ → Type 0) (old new : Pair) : Type 0 where
  pub bytes : List ℕ
  pub told : old.gives.bytes ≡ Some bytes
  pub right : IsRight bytes
  pub read : Rose old.gives.faults new.gives.faults → ⊥
  pub written : Rose old.takes.faults new.takes.faults → ⊥

-- nothing outside failed, and all streams are in order
pub record IsFaultless (setup : Setup) (old new : Doorway) : Type 0 where
  pub stations : (n : ℕ) → n < setup.rules.stations → IsSound (λ bytes. station_wrong setup.rules.bytes bytes ≡ None) (old.stations n) (new.stations n)
  pub operator : IsSound (λ bytes. operator_wrong setup.rules.bytes bytes ≡ None) old.operator new.operator
  pub gates : (w : ℕ) → w < setup.workers → Rose (old.gates w).faults (new.gates w).faults → ⊥

-- Then every stream ended in order, where no fence was ahead.
abbrev pub EndsInOrder : Setup → Doorway → Doorway → Run → Type 0
EndsInOrder setup old new run = IsFaultless setup old new → All (λ h. is_ahead h.end ≡ false) run.stations → all_ended run ≡ true
