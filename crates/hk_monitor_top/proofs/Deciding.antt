-- What a status says.
use Rattle.std.proofs.Common.{◌≡◌, ◌≢◌, ◌⊎◌, ℕ, Bool, true, false, cond, List, Option, Some, Err, inl, inr, refl, sym, subst, arith, is_some}
use Rattle.std.specs.Option.{IfSome}
use Rattle.hk_outside.specs.Doors.{Doorway, Planned, IfDoorFailed, UnlessDoorFailed}
use Rattle.hk_outside.specs.declared.door.DoorFault.{DoorFault}
use Rattle.hk_outside.specs.declared.door.DoorFault.TheVariants as faults
use Rattle.hk_outside.specs.declared.door.Start.TheVariants.{Started}
use Rattle.hk_spec_monitor.specs.Run.{Run}
use Rattle.hk_spec_monitor.specs.Devices.{planned, asks_in_order, granted, WasRefused}
use Rattle.hk_spec_monitor.specs.Setup.{Setup}
use Rattle.hk_spec_monitor.specs.Summary.{mismatch, all_ended, Concludes, ENDED, IN_DISORDER, WRITE_FAULT, MISMATCH}
use Rattle.hk_monitor_top.specs.Statuses.{NO_MEMORY, DOOR_FAULT, IsRefusal, IsOfRun, code_of, refusal_by}
use Rattle.hk_monitor_top.specs.Monitored.{WasAskedFor}

decided : (ahead whole ended : Bool) → IsOfRun (cond ahead MISMATCH (cond whole (cond ended ENDED IN_DISORDER) WRITE_FAULT))
decided true whole ended = inr (inr (inr refl))
decided false true true = inl refl
decided false true false = inr (inl refl)
decided false false ended = inr (inr (inl refl))

pub of_run : (code : ℕ) (written written' : Option (List ℕ)) (count count' : ℕ) (run : Run) → Concludes code written written' count count' run → IsOfRun code
of_run code written written' count count' run concludes = subst IsOfRun (sym concludes.status) (decided (is_some (mismatch run)) concludes.whole (all_ended run))

pub not_refused : {A : Type 0} (code : ℕ) → IsOfRun code → IsRefusal code → A
not_refused code ran refused = absurd (elim refused [
  | inl a ↦ other a ran
  | inr rest ↦ elim rest [
    | inl a ↦ other' a ran
    | inr a ↦ other'' a ran
  ]
])
  where
    other : code ≡ 2 → IsOfRun code → ⊥
    other a (inl b) = omega (arith, a, b)
    other a (inr (inl b)) = omega (arith, a, b)
    other a (inr (inr (inl b))) = omega (arith, a, b)
    other a (inr (inr (inr b))) = omega (arith, a, b)

    other' : code ≡ 4 → IsOfRun code → ⊥
    other' a (inl b) = omega (arith, a, b)
    other' a (inr (inl b)) = omega (arith, a, b)
    other' a (inr (inr (inl b))) = omega (arith, a, b)
    other' a (inr (inr (inr b))) = omega (arith, a, b)

    other'' : code ≡ 8 → IsOfRun code → ⊥
    other'' a (inl b) = omega (arith, a, b)
    other'' a (inr (inl b)) = omega (arith, a, b)
    other'' a (inr (inr (inl b))) = omega (arith, a, b)
    other'' a (inr (inr (inr b))) = omega (arith, a, b)

pub known_fault : (fault : DoorFault) → (code_of (refusal_by fault) ≡ NO_MEMORY) ⊎ (code_of (refusal_by fault) ≡ DOOR_FAULT) ⊎ IsOfRun (code_of (refusal_by fault))
known_fault faults.Failed = inr (inl refl)
known_fault faults.NoMemory = inl refl

pub refused_by : (fault : DoorFault) → IsRefusal (code_of (refusal_by fault))
refused_by faults.Failed = inr (inr refl)
refused_by faults.NoMemory = inr (inl refl)

pub fault_rose : (T : Type 0) (P : Type 0) (fault : DoorFault) → IfDoorFailed {T = T} (Err fault) P → code_of (refusal_by fault) ≡ DOOR_FAULT → P
fault_rose T P faults.Failed rose is = rose
fault_rose T P faults.NoMemory rose is = absurd (omega (arith, is))

pub no_fault : (T : Type 0) (P : Type 0) (fault : DoorFault) → UnlessDoorFailed {T = T} (Err fault) P → code_of (refusal_by fault) ≢ DOOR_FAULT → P
no_fault T P faults.Failed stays other = absurd (other refl)
no_fault T P faults.NoMemory stays other = stays

pub asked_refused : (setup : Setup) (door : Doorway) → IfSome door.plan (λ told. told ≡ planned setup) → WasRefused (asks_in_order setup) door → WasAskedFor setup door
asked_refused setup door plan refused = record { plan = plan; order = inr refused }

pub asked_all : (setup : Setup) (door : Doorway) → door.start ≡ Started → door.plan ≡ Some (planned setup) → door.calls ≡ granted (asks_in_order setup) → WasAskedFor setup door
asked_all setup door start plan calls = record {
  plan = subst (λ (p : Option Planned). IfSome p (λ told. told ≡ planned setup)) (sym plan) refl;
  order = inl (start, calls);
}
