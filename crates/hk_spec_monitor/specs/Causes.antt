-- Why a station, or the operator, ended as it did.
use Rattle.std.specs.Prelude.{◌≡◌, ℕ, ◌%◌, ◌≤◌, ◌<◌, Bool, true, false, Some, None}
use Rattle.std.specs.List.{All}
use Rattle.hk_base.specs.Devices.{Rose, IsNothing}
use Rattle.hk_base.specs.declared.plain.End.{End}
use Rattle.hk_base.specs.declared.plain.End.TheVariants as ends
use Rattle.hk_base.specs.declared.plain.OpEnd.{OpEnd}
use Rattle.hk_base.specs.declared.plain.OpEnd.TheVariants as op_ends
use Rattle.hk_spec_streams.specs.Station.{station_fault, station_wrong, fences}
use Rattle.hk_spec_streams.specs.Operator.{operator_fault, operator_wrong}
use Rattle.hk_spec_settings.specs.Settings.{Rules}
use Rattle.hk_outside.specs.Doors.{Doorway, Pair, HeldGate}
use Rattle.hk_spec_monitor.specs.Looks.{last_version}
use Rattle.hk_spec_monitor.specs.Fences.{IsAhead}
use Rattle.hk_spec_monitor.specs.Run.{Heard, Obeyed, Run, EachStation, is_torn, is_reply_torn}

-- its link failed
abbrev pub is_read_fault : End → Bool
is_read_fault ends.ReadFault = true
is_read_fault ends.Ended = false
is_read_fault (ends.Wire fault) = false
is_read_fault (ends.FenceAhead asked found) = false
is_read_fault ends.SinkFault = false
is_read_fault ends.GateFault = false

-- its gate failed
abbrev pub is_gate_fault : End → Bool
is_gate_fault ends.GateFault = true
is_gate_fault ends.Ended = false
is_gate_fault (ends.Wire fault) = false
is_gate_fault (ends.FenceAhead asked found) = false
is_gate_fault ends.ReadFault = false
is_gate_fault ends.SinkFault = false

-- the operator's calls failed
abbrev pub is_call_fault : OpEnd → Bool
is_call_fault op_ends.ReadFault = true
is_call_fault op_ends.Ended = false
is_call_fault (op_ends.Wire fault) = false
is_call_fault op_ends.SinkFault = false

-- The station's stream ended in order: nothing is left, nothing is wrong, and no fence asks for more than the last look found.
pub record IsAtEnd (rules : Rules) (new : Pair) (h : Heard) : Type 0 where
  pub nothing_left : IsNothing new.gives.bytes
  pub right : station_wrong rules.bytes h.taken ≡ None
  pub met : All (λ fence. fence.asked ≤ last_version h.looks) (fences h.taken)

module _ (rules : Rules) where
  -- A station has the cause of its end, by its link and log before and after, and its gate: its stream is whole and wholly taken; its
  -- stream's fault; a fence that is ahead; or a count that rose, of its link or its gate where its stream has no fault, or of its log.
  abbrev pub CauseOf : Pair → Pair → HeldGate → HeldGate → Heard → End → Type 0
  CauseOf old new gate gate' h ends.Ended = IsAtEnd rules new h
  CauseOf old new gate gate' h (ends.Wire fault) = (station_wrong rules.bytes h.taken ≡ Some fault) × (station_fault rules.bytes h.taken ≡ None → IsNothing new.gives.bytes)
  CauseOf old new gate gate' h (ends.FenceAhead asked found) = IsAhead rules asked found h
  CauseOf old new gate gate' h ends.ReadFault = Rose old.gives.faults new.gives.faults × (station_fault rules.bytes h.taken ≡ None)
  CauseOf old new gate gate' h ends.SinkFault = Rose old.takes.faults new.takes.faults
  CauseOf old new gate gate' h ends.GateFault = Rose gate.faults gate'.faults × (station_fault rules.bytes h.taken ≡ None)

  abbrev pub OperatorCauseOf : Pair → Pair → Obeyed → OpEnd → Type 0
  OperatorCauseOf old new o op_ends.Ended = IsNothing new.gives.bytes × (operator_wrong rules.bytes o.taken ≡ None)
  OperatorCauseOf old new o (op_ends.Wire fault) = (operator_wrong rules.bytes o.taken ≡ Some fault) × (operator_fault rules.bytes o.taken ≡ None → IsNothing new.gives.bytes)
  OperatorCauseOf old new o op_ends.ReadFault = Rose old.gives.faults new.gives.faults × (operator_fault rules.bytes o.taken ≡ None)
  OperatorCauseOf old new o op_ends.SinkFault = Rose old.takes.faults new.takes.faults

-- No failure was passed over: the count of a link or a log stayed, but where its fault ended the station.
pub record StayedBut (old new : Pair) (end : End) : Type 0 where
  pub link : is_read_fault end ≡ false → new.gives.faults ≡ old.gives.faults
  pub log : is_torn end ≡ false → new.takes.faults ≡ old.takes.faults

pub record OperatorStayedBut (old new : Pair) (end : OpEnd) : Type 0 where
  pub calls : is_call_fault end ≡ false → new.gives.faults ≡ old.gives.faults
  pub replies : is_reply_torn end ≡ false → new.takes.faults ≡ old.takes.faults

-- Every end of a run has its cause, in its stream or in a count that rose in this call, and no other count rose. Station n is served by
-- worker n mod workers.
pub record HasCauses (rules : Rules) (workers : ℕ) (old new : Doorway) (run : Run) : Type 0 where
  pub stations : EachStation run (λ n h. CauseOf rules (old.stations n) (new.stations n) (old.gates (n % workers)) (new.gates (n % workers)) h h.end)
  pub stayed : EachStation run (λ n h. StayedBut (old.stations n) (new.stations n) h.end)
  pub gates : (w : ℕ) → w < workers → EachStation run (λ n h. n % workers ≡ w → is_gate_fault h.end ≡ false) → (new.gates w).faults ≡ (old.gates w).faults
  pub operator : OperatorCauseOf rules old.operator new.operator run.operator run.operator.end
  pub operator_stayed : OperatorStayedBut old.operator new.operator run.operator.end
