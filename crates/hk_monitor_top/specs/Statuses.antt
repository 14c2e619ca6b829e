-- The statuses of the monitor's top call.
use Rattle.std.specs.Prelude.{◌≡◌, ◌⊎◌, ℕ}
use Rattle.hk_outside.specs.declared.door.DoorFault.{DoorFault}
use Rattle.hk_outside.specs.declared.door.DoorFault.TheVariants as faults
use Rattle.hk_monitor_top.specs.declared.statuses.Refusal.{Refusal}
use Rattle.hk_monitor_top.specs.declared.statuses.Refusal.TheVariants as refusals
use Rattle.hk_spec_monitor.specs.Summary.{ENDED, IN_DISORDER, WRITE_FAULT, MISMATCH}

-- the words are no command
abbrev pub USAGE : ℕ
USAGE = 2

-- memory was wanted at the opening
abbrev pub NO_MEMORY : ℕ
NO_MEMORY = 4

-- the door refused
abbrev pub DOOR_FAULT : ℕ
DOOR_FAULT = 8

-- nothing was run
abbrev pub IsRefusal : ℕ → Type 0
IsRefusal code = (code ≡ USAGE) ⊎ (code ≡ NO_MEMORY) ⊎ (code ≡ DOOR_FAULT)

-- a run was made
abbrev pub IsOfRun : ℕ → Type 0
IsOfRun code = (code ≡ ENDED) ⊎ (code ≡ IN_DISORDER) ⊎ (code ≡ WRITE_FAULT) ⊎ (code ≡ MISMATCH)

abbrev pub IsStatus : ℕ → Type 0
IsStatus code = IsRefusal code ⊎ IsOfRun code

-- the status of a refusal
abbrev pub code_of : Refusal → ℕ
code_of refusals.Usage = USAGE
code_of refusals.NoMemory = NO_MEMORY
code_of refusals.DoorFault = DOOR_FAULT

-- why nothing is run where a door refuses
abbrev pub refusal_by : DoorFault → Refusal
refusal_by faults.Failed = refusals.DoorFault
refusal_by faults.NoMemory = refusals.NoMemory
