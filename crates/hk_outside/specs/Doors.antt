-- What a door tells of itself and of its objects.
use Rattle.std.specs.Prelude.{◌≡◌, ◌≢◌, ⊤, ℕ, ◌&&◌, Bool, true, false, List, [], ◌∷◌, ◌++◌, length, filter, Option, Result, Ok, Err, string_bytes}
use Rattle.std.specs.List.{All}
use Rattle.hk_outside.specs.declared.door.Plan.{Plan}
use Rattle.hk_outside.specs.declared.door.DoorFault.{DoorFault}
use Rattle.hk_outside.specs.declared.door.DoorFault.TheVariants as faults
use Rattle.hk_outside.specs.declared.door.Start.{Start}
use Rattle.hk_outside.specs.declared.door.Held.{Held}
use Rattle.hk_outside.specs.declared.door.Held.TheVariants as held
use Rattle.hk_outside.specs.declared.door.Ask.{Ask}
use Rattle.hk_outside.specs.declared.door.Ask.TheVariants as asks
use Rattle.hk_outside.specs.declared.door.Call.{Call}

-- a plan without where its texts lie in memory
pub record Planned : Type 0 where
  pub stations : ℕ
  pub workers : ℕ
  pub flips : ℕ
  pub hop : ℕ
  pub songs : ℕ
  pub positions : ℕ
  pub versions : ℕ
  pub bytes : ℕ
  pub address : List ℕ
  pub station_port : ℕ
  pub operator_port : ℕ
  pub logs : List ℕ

abbrev pub plan_of : Plan → Planned
plan_of plan = record {
  stations = plan.stations;
  workers = plan.workers;
  flips = plan.flips;
  hop = plan.hop;
  songs = plan.songs;
  positions = plan.positions;
  versions = plan.versions;
  bytes = plan.bytes;
  address = string_bytes plan.address;
  station_port = plan.station_port;
  operator_port = plan.operator_port;
  logs = string_bytes plan.logs;
}

-- what is told of an object: the bytes that are left in it or that it was given, where it tells them, and its count of faults
pub record Told : Type 0 where
  pub bytes : Option (List ℕ)
  pub faults : ℕ

-- two objects that are handed out and back together: what gives bytes, and what takes them
pub record Pair : Type 0 where
  pub held : Held
  pub gives : Told
  pub takes : Told

-- a gate, of which a count of faults is told
pub record HeldGate : Type 0 where
  pub held : Held
  pub faults : ℕ

-- A door: whether it was started, with which plan, its own count of faults, the calls that asked for objects, in order, and what
-- is told of its objects. Gate w is the w-th that it hands out, from 0.
pub record Doorway : Type 0 where
  pub start : Start
  pub plan : Option Planned
  pub faults : ℕ
  pub calls : List Call
  pub stations : ℕ → Pair
  pub operator : Pair
  pub gates : ℕ → HeldGate

-- where an object is
abbrev pub held_at : Ask → Doorway → Held
held_at (asks.Station n) door = (door.stations n).held
held_at asks.Operator door = door.operator.held
held_at (asks.Gate w) door = (door.gates w).held

-- this wasn't asked for
abbrev pub IsUnasked : Ask → List Call → Type 0
IsUnasked ask calls = All (λ call. call.ask ≢ ask) calls

abbrev pub is_gate : Ask → Bool
is_gate (asks.Station n) = false
is_gate asks.Operator = false
is_gate (asks.Gate w) = true

-- how many gates were asked for, and how many were handed out
abbrev pub gates_asked : List Call → ℕ
gates_asked calls = length (filter (λ call. is_gate call.ask) calls)

abbrev pub gates_given : List Call → ℕ
gates_given calls = length (filter (λ call. is_gate call.ask && call.ok) calls)

-- what is told of all objects stays
pub record SameObjects (old new : Doorway) : Type 0 where
  pub stations : (n : ℕ) → new.stations n ≡ old.stations n
  pub operator : new.operator ≡ old.operator
  pub gates : (w : ℕ) → new.gates w ≡ old.gates w

-- what is told of all objects but this one stays
pub record OthersStay (object : Ask) (old new : Doorway) : Type 0 where
  pub stations : (n : ℕ) → asks.Station n ≢ object → new.stations n ≡ old.stations n
  pub operator : asks.Operator ≢ object → new.operator ≡ old.operator
  pub gates : (w : ℕ) → asks.Gate w ≢ object → new.gates w ≡ old.gates w

-- the door was started, with this answer and this plan, and nothing was asked for yet
pub record HasStarted (start : Start) (plan : Option Planned) (old new : Doorway) : Type 0 where
  pub start_is : new.start ≡ start
  pub plan_is : new.plan ≡ plan
  pub no_calls : new.calls ≡ []
  pub objects : SameObjects old new

-- an object was asked for, with this answer
pub record WasAsked (ask : Ask) (ok : Bool) (old new : Doorway) : Type 0 where
  pub start : new.start ≡ old.start
  pub plan : new.plan ≡ old.plan
  pub calls : new.calls ≡ old.calls ++ record { ask = ask; ok = ok } ∷ []

-- it was handed out
pub record IsHandedOut (ask object : Ask) (old new : Doorway) : Type 0 where
  pub asked : WasAsked ask true old new
  pub outside : held_at object new ≡ held.Outside
  pub others : OthersStay object old new

-- it was refused
pub record IsRefused (ask : Ask) (old new : Doorway) : Type 0 where
  pub asked : WasAsked ask false old new
  pub objects : SameObjects old new

-- it was handed back
pub record IsHandedBack (object : Ask) (old new : Doorway) : Type 0 where
  pub start : new.start ≡ old.start
  pub plan : new.plan ≡ old.plan
  pub faults : new.faults ≡ old.faults
  pub calls : new.calls ≡ old.calls
  pub back : held_at object new ≡ held.Back
  pub others : OthersStay object old new

-- a fact where the door itself failed
abbrev pub IfDoorFailed : {T : Type 0} → Result T DoorFault → Type 0 → Type 0
IfDoorFailed (Ok x) P = ⊤
IfDoorFailed (Err faults.Failed) P = P
IfDoorFailed (Err faults.NoMemory) P = ⊤

-- a fact where it didn't
abbrev pub UnlessDoorFailed : {T : Type 0} → Result T DoorFault → Type 0 → Type 0
UnlessDoorFailed (Ok x) P = P
UnlessDoorFailed (Err faults.Failed) P = ⊤
UnlessDoorFailed (Err faults.NoMemory) P = P

-- a fact where memory was refused
abbrev pub IfNoMemory : {T : Type 0} → Result T DoorFault → Type 0 → Type 0
IfNoMemory (Ok x) P = ⊤
IfNoMemory (Err faults.Failed) P = ⊤
IfNoMemory (Err faults.NoMemory) P = P
