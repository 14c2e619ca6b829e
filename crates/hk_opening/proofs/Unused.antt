-- What was handed out is back, as it was.
use Rattle.std.proofs.Common.{◌≡◌, ◌≢◌, ◌∙◌, ◌⊎◌, ℕ, ◌<◌, List, length, inl, inr, sym, ap, subst, arith}
use Rattle.std.specs.List.{All}
use Rattle.std.proofs.lemmas.Option.{slice_get_cases}
use Rattle.std.proofs.lemmas.List.Elements.{All-weaker}
use Rattle.hk_base.specs.declared.sink.Sink as sinks
use Rattle.hk_outside.specs.declared.link.Link as links
use Rattle.hk_outside.specs.Doors.{Doorway, Pair, HeldGate, SameObjects, held_at}
use Rattle.hk_outside.specs.declared.door.Ask.{Ask}
use Rattle.hk_outside.specs.declared.door.Ask.TheVariants as asks
use Rattle.hk_outside.specs.declared.door.Call.{Call}
use Rattle.hk_outside.specs.declared.door.Held.{Held}
use Rattle.hk_outside.specs.declared.door.Held.TheVariants.{Outside, Back}
use Rattle.hk_spec_monitor.specs.Devices.{IsUnused, AllAreBack, HasAll}
use Rattle.hk_opening.specs.Handing.{StationsAreOut, GatesAreOut, StationsAreBack, GatesAreBack, OperatorIsUnused, IsAmong, OnlyTheseAreOut}
use Rattle.hk_opening.proofs.Back.{IfGranted}

-- an object is where it was, or back
abbrev IsLet : Held → Held → Type 0
IsLet old new = (new ≡ old) ⊎ (new ≡ Back)

let_in : (old new : Held) → IsLet old new → old ≢ Outside → new ≢ Outside
let_in old new (inl same) before out = before (sym same ∙ out)
let_in old new (inr back) before out = cc

-- a pair is as it was
record IsPairUnused (old new : Pair) : Type 0 where
  pub held : IsLet old.held new.held
  pub gives : new.gives ≡ old.gives
  pub takes : new.takes ≡ old.takes

-- a gate is as it was
record IsGateUnused (old new : HeldGate) : Type 0 where
  pub held : IsLet old.held new.held
  pub faults : new.faults ≡ old.faults

module _ {K S : Type 0} (link : links.Ghosts K) (sink : sinks.Ghosts S) (pairs : List (K × S)) where
  pub stations_outside : (old new : Doorway) → StationsAreOut link sink pairs old new → (n : ℕ) → n < length pairs → (new.stations n).held ≡ Outside
  stations_outside old new out n within = elim (slice_get_cases pairs n).1 [
    | inl h ↦ out.out n h.0 h.2
    | inr h ↦ absurd (omega (arith, within, h.0))
  ]

  pub stations_home : (old new : Doorway) → StationsAreBack link sink pairs old new → (n : ℕ) → n < length pairs → (new.stations n).held ≡ Back
  stations_home old new back n within = elim (slice_get_cases pairs n).1 [
    | inl h ↦ back.back n h.0 h.2
    | inr h ↦ absurd (omega (arith, within, h.0))
  ]

  station_unused : (old mid now new : Doorway) (n : ℕ) → StationsAreOut link sink pairs old mid → now.stations n ≡ mid.stations n → StationsAreBack link sink pairs now new
      → IsPairUnused (old.stations n) (new.stations n)
  station_unused old mid now new n out stays back = elim (slice_get_cases pairs n).1 [
    | inl h ↦ record {
      held = inr (back.back n h.0 h.2);
      gives = back.link_told n h.0 h.2 ∙ out.link_told n h.0 h.2;
      takes = back.log_told n h.0 h.2 ∙ out.log_told n h.0 h.2;
    }
    | inr h ↦
        let same : new.stations n ≡ old.stations n = back.others n h.0 ∙ stays ∙ out.others n h.0 in
        record { held = inl (ap (λ p. p.held) same); gives = ap (λ p. p.gives) same; takes = ap (λ p. p.takes) same }
  ]

module _ {G : Type 0} (faults : G → ℕ) (gates : List G) where
  pub gates_outside : (old new : Doorway) → GatesAreOut faults gates old new → (w : ℕ) → w < length gates → (new.gates w).held ≡ Outside
  gates_outside old new out w within = elim (slice_get_cases gates w).1 [
    | inl h ↦ out.out w h.0 h.2
    | inr h ↦ absurd (omega (arith, within, h.0))
  ]

  pub gates_home : (old new : Doorway) → GatesAreBack faults gates old new → (w : ℕ) → w < length gates → (new.gates w).held ≡ Back
  gates_home old new back w within = elim (slice_get_cases gates w).1 [
    | inl h ↦ back.back w h.0 h.2
    | inr h ↦ absurd (omega (arith, within, h.0))
  ]

  gate_unused : (old mid new : Doorway) (w : ℕ) → GatesAreOut faults gates old mid → GatesAreBack faults gates mid new → IsGateUnused (old.gates w) (new.gates w)
  gate_unused old mid new w out back = elim (slice_get_cases gates w).1 [
    | inl h ↦ record { held = inr (back.back w h.0 h.2); faults = back.told w h.0 h.2 ∙ out.told w h.0 h.2 }
    | inr h ↦
        let same : new.gates w ≡ old.gates w = back.others w h.0 ∙ out.others w h.0 in
        record { held = inl (ap (λ gate. gate.held) same); faults = ap (λ gate. gate.faults) same }
  ]

-- A door was started and asked, then gates were handed back, and then stations.
module _ {K S G : Type 0} (link : links.Ghosts K) (sink : sinks.Ghosts S) (faults : G → ℕ) (pairs : List (K × S)) (gates : List G) where
  pub record WasClosed (old started asked closing new : Doorway) : Type 0 where
    pub begun : SameObjects old started
    pub stations_out : StationsAreOut link sink pairs started asked
    pub gates_out : GatesAreOut faults gates started asked
    pub operator : OperatorIsUnused started asked
    pub gates_back : GatesAreBack faults gates asked closing
    pub stations_stay : (n : ℕ) → closing.stations n ≡ asked.stations n
    pub operator_stays : closing.operator ≡ asked.operator
    pub stations_back : StationsAreBack link sink pairs closing new
    pub gates_stay : (w : ℕ) → new.gates w ≡ closing.gates w
    pub operator_is : new.operator ≡ closing.operator

  module _ (old started asked closing new : Doorway) (closed : WasClosed old started asked closing new) where
    station : (n : ℕ) → IsPairUnused (old.stations n) (new.stations n)
    station n = subst (λ p. IsPairUnused p (new.stations n)) (closed.begun.stations n)
        (station_unused link sink pairs started asked closing new n closed.stations_out (closed.stations_stay n) closed.stations_back)

    gate : (w : ℕ) → IsGateUnused (old.gates w) (new.gates w)
    gate w = subst (λ g. IsGateUnused g (new.gates w)) (closed.begun.gates w)
        (subst (λ g. IsGateUnused (started.gates w) g) (sym (closed.gates_stay w)) (gate_unused faults gates started asked closing w closed.gates_out closed.gates_back))

    operator : IsPairUnused old.operator new.operator
    operator = subst (λ p. IsPairUnused p new.operator) closed.begun.operator
        (subst (λ p. IsPairUnused started.operator p) (sym (closed.operator_is ∙ closed.operator_stays))
        (record { held = closed.operator.held; gives = closed.operator.calls; takes = closed.operator.replies }))

    pub unused : IsUnused old new
    unused = record {
      links = λ n. (station n).gives;
      logs = λ n. (station n).takes;
      calls = operator.gives;
      replies = operator.takes;
      gates = λ w. (gate w).faults;
    }

    home : (ask : Ask) → IsAmong (length pairs) (length gates) asked ask → held_at ask new ≡ Back
    home (asks.Station n) within = stations_home link sink pairs closing new closed.stations_back n within
    home asks.Operator back = ap (λ p. p.held) (closed.operator_is ∙ closed.operator_stays) ∙ back
    home (asks.Gate w) within = ap (λ g. g.held) (closed.gates_stay w) ∙ gates_home faults gates asked closing closed.gates_back w within

    pub all_back : OnlyTheseAreOut (length pairs) (length gates) asked → new.calls ≡ asked.calls → AllAreBack new
    all_back only same =
        subst (All (IfGranted (λ ask. held_at ask new ≡ Back))) (sym same)
        (All-weaker (IfGranted (IsAmong (length pairs) (length gates) asked)) (IfGranted (λ ask. held_at ask new ≡ Back)) (λ (call : Call) among is. home call.ask (among is)) asked.calls only)

    pub has_all : HasAll old → HasAll new
    has_all before = record {
      stations = λ n. let_in _ _ (station n).held (before.stations n);
      operator = let_in _ _ operator.held before.operator;
      gates = λ w. let_in _ _ (gate w).held (before.gates w);
    }
