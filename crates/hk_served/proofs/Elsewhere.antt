-- Causes and counts ask nothing of where an object is held.
use Rattle.std.proofs.Common.{◌≡◌, sym, ◌∙◌, ap, subst}
use Rattle.hk_base.specs.Devices.{Rose, IsNothing}
use Rattle.hk_base.specs.declared.plain.End.{End}
use Rattle.hk_base.specs.declared.plain.End.TheVariants as ends
use Rattle.hk_outside.specs.Doors.{Told, Pair, HeldGate}
use Rattle.hk_spec_settings.specs.Settings.{Rules}
use Rattle.hk_spec_monitor.specs.Run.{Heard}
use Rattle.hk_spec_monitor.specs.Causes.{CauseOf, StayedBut}

module _ (old new there there' : Pair) (gives : there.gives ≡ old.gives) (takes : there.takes ≡ old.takes) (gives' : there'.gives ≡ new.gives) (takes' : there'.takes ≡ new.takes) where
  faults_rose : (told told' : Told) (is is' : Told) → is ≡ told → is' ≡ told' → Rose told.faults told'.faults → Rose is.faults is'.faults
  faults_rose told told' is is' same same' rose = subst (λ (t : Told). Rose t.faults is'.faults) (sym same) (subst (λ (t : Told). Rose told.faults t.faults) (sym same') rose)

  nothing : IsNothing new.gives.bytes → IsNothing there'.gives.bytes
  nothing none = subst (λ (t : Told). IsNothing t.bytes) (sym gives') none

  -- a cause at pairs and gates of which the same is told
  pub cause_at : (rules : Rules) (gate gate' held held' : HeldGate) (h : Heard) (end : End) → held.faults ≡ gate.faults → held'.faults ≡ gate'.faults
      → CauseOf rules old new gate gate' h end → CauseOf rules there there' held held' h end
  cause_at rules gate gate' held held' h ends.Ended same same' cause = record { nothing_left = nothing cause.nothing_left; right = cause.right; met = cause.met }
  cause_at rules gate gate' held held' h (ends.Wire fault) same same' cause = (cause.0, λ none. nothing (cause.1 none))
  cause_at rules gate gate' held held' h (ends.FenceAhead asked found) same same' cause = cause
  cause_at rules gate gate' held held' h ends.ReadFault same same' cause = (faults_rose old.gives new.gives there.gives there'.gives gives gives' cause.0, cause.1)
  cause_at rules gate gate' held held' h ends.SinkFault same same' cause = faults_rose old.takes new.takes there.takes there'.takes takes takes' cause
  cause_at rules gate gate' held held' h ends.GateFault same same' cause = (
    subst (λ n. Rose n held'.faults) (sym same) (subst (λ n. Rose gate.faults n) (sym same') cause.0),
    cause.1,
  )

  -- and that no other count rose
  pub stayed_at : (end : End) → StayedBut old new end → StayedBut there there' end
  stayed_at end stayed = record {
    link = λ other. ap (λ (t : Told). t.faults) gives' ∙ stayed.link other ∙ sym (ap (λ (t : Told). t.faults) gives);
    log = λ other. ap (λ (t : Told). t.faults) takes' ∙ stayed.log other ∙ sym (ap (λ (t : Told). t.faults) takes);
  }
