-- Causes by what is told of objects, wherever a door has them.
use Rattle.std.proofs.Common.{◌≡◌, sym, ap, subst, subst₂, ◌∙◌}
use Rattle.hk_base.specs.Devices.{Rose, IsNothing}
use Rattle.hk_base.specs.declared.plain.End.{End}
use Rattle.hk_base.specs.declared.plain.End.TheVariants as ends
use Rattle.hk_base.specs.declared.plain.OpEnd.{OpEnd}
use Rattle.hk_base.specs.declared.plain.OpEnd.TheVariants as op_ends
use Rattle.hk_spec_settings.specs.Settings.{Rules}
use Rattle.hk_outside.specs.Doors.{Pair, HeldGate, Told}
use Rattle.hk_spec_monitor.specs.Run.{Heard, Obeyed}
use Rattle.hk_spec_monitor.specs.Causes.{CauseOf, OperatorCauseOf, StayedBut, OperatorStayedBut}

module _ (rules : Rules) (a a' b b' : Pair) (gives : a.gives ≡ b.gives) (gives' : a'.gives ≡ b'.gives) (takes : a.takes ≡ b.takes) (takes' : a'.takes ≡ b'.takes) where
  nothing_carries : IsNothing a'.gives.bytes → IsNothing b'.gives.bytes
  nothing_carries nothing = subst (λ (t : Told). IsNothing t.bytes) gives' nothing

  read_carries : Rose a.gives.faults a'.gives.faults → Rose b.gives.faults b'.gives.faults
  read_carries rose = subst₂ (λ (t t' : Told). Rose t.faults t'.faults) gives gives' rose

  written_carries : Rose a.takes.faults a'.takes.faults → Rose b.takes.faults b'.takes.faults
  written_carries rose = subst₂ (λ (t t' : Told). Rose t.faults t'.faults) takes takes' rose

  pub cause_carries : (g g' k k' : HeldGate) (h : Heard) (end : End) → g.faults ≡ k.faults → g'.faults ≡ k'.faults → CauseOf rules a a' g g' h end → CauseOf rules b b' k k' h end
  cause_carries g g' k k' h ends.Ended gate gate' c = record { nothing_left = nothing_carries c.nothing_left; right = c.right; met = c.met }
  cause_carries g g' k k' h (ends.Wire fault) gate gate' c = (c.0, λ none. nothing_carries (c.1 none))
  cause_carries g g' k k' h (ends.FenceAhead asked found) gate gate' c = c
  cause_carries g g' k k' h ends.ReadFault gate gate' c = (read_carries c.0, c.1)
  cause_carries g g' k k' h ends.SinkFault gate gate' c = written_carries c
  cause_carries g g' k k' h ends.GateFault gate gate' c = (subst₂ Rose gate gate' c.0, c.1)

  pub stayed_carries : (end : End) → StayedBut a a' end → StayedBut b b' end
  stayed_carries end stayed = record {
    link = λ no. ap (λ t. t.faults) (sym gives') ∙ stayed.link no ∙ ap (λ t. t.faults) gives;
    log = λ no. ap (λ t. t.faults) (sym takes') ∙ stayed.log no ∙ ap (λ t. t.faults) takes;
  }

  pub operator_cause_carries : (o : Obeyed) (end : OpEnd) → OperatorCauseOf rules a a' o end → OperatorCauseOf rules b b' o end
  operator_cause_carries o op_ends.Ended c = (nothing_carries c.0, c.1)
  operator_cause_carries o (op_ends.Wire fault) c = (c.0, λ none. nothing_carries (c.1 none))
  operator_cause_carries o op_ends.ReadFault c = (read_carries c.0, c.1)
  operator_cause_carries o op_ends.SinkFault c = written_carries c

  pub operator_stayed_carries : (end : OpEnd) → OperatorStayedBut a a' end → OperatorStayedBut b b' end
  operator_stayed_carries end stayed = record {
    calls = λ no. ap (λ t. t.faults) (sym gives') ∙ stayed.calls no ∙ ap (λ t. t.faults) gives;
    replies = λ no. ap (λ t. t.faults) (sym takes') ∙ stayed.replies no ∙ ap (λ t. t.faults) takes;
  }
