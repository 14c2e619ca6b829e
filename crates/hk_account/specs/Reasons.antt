-- Why a station that was served ended, and what follows of it for its cause.
use Rattle.std.specs.Prelude.{◌≡◌, ◌⊎◌, ℕ, List, Option, Some, None}
use Rattle.hk_base.specs.Devices.{Rose, IsNothing}
use Rattle.hk_base.specs.declared.plain.End.{End}
use Rattle.hk_base.specs.declared.plain.End.TheVariants as ends
use Rattle.hk_spec_matching.specs.Catalogue.{Songs, Rise}
use Rattle.hk_spec_settings.specs.Settings.{Rules}
use Rattle.hk_spec_runs.specs.Replay.{Listener, end_of}
use Rattle.hk_spec_runs.specs.Listening.{Instant, bytes_in, unheard, after, looks_over, UsesOf}
use Rattle.hk_outside.specs.Doors.{Pair, HeldGate}
use Rattle.hk_spec_monitor.specs.Causes.{CauseOf}
use Rattle.hk_account.specs.Account.{heard_of}

module _ (rules : Rules) where
  -- The station ended by what it heard, at the end of its link with nothing left there, or where a count rose, of its link or of
  -- its gate.
  abbrev pub HasReason : Listener → Pair → Pair → HeldGate → HeldGate → End → Type 0
  HasReason l old new gate gate' end = (l.end ≡ Some end)
      ⊎ ((l.end ≡ None) × (end ≡ end_of rules l) × IsNothing new.gives.bytes)
      ⊎ ((l.end ≡ None) × (end ≡ ends.ReadFault) × Rose old.gives.faults new.gives.faults)
      ⊎ ((l.end ≡ None) × (end ≡ ends.GateFault) × Rose gate.faults gate'.faults)

  -- Then it has the cause of its end.
  abbrev pub CausesSinceStart : Type 0
  CausesSinceStart = (to : ℕ) (instants : List Instant) (past : ℕ → Option Songs) (end : End) (old new : Pair) (gate gate' : HeldGate)
      → Rise 0 (looks_over rules unheard instants) to → UsesOf rules (after rules unheard instants) (bytes_in instants)
      → HasReason (after rules unheard instants) old new gate gate' end → CauseOf rules old new gate gate' (heard_of rules instants past end) end
