-- Where nothing outside failed and all streams are in order, every stream ended in order.
use Rattle.std.proofs.Common.{◌≡◌, ℕ, suc, ◌%◌, ◌<◌, ◌==◌, ◌&&◌, ◌||◌, if◌then◌else◌, Bool, true, false, Option, Some, None, List, [], ◌∷◌, ◌++◌, length, slice_get, refl, sym, ◌∙◌, ap, subst, append_assoc, append-nil}
use Rattle.std.specs.Option.{option_or}
use Rattle.std.specs.List.{list_all}
use Rattle.std.proofs.lemmas.Nat.{mod_below}
use Rattle.std.proofs.lemmas.Option.{slice_get_within, get_or_from_slice_get}
use Rattle.hk_base.specs.Devices.{Took, Rose, IsNothing}
use Rattle.hk_base.specs.declared.plain.WireFault.{WireFault}
use Rattle.hk_base.specs.declared.plain.WireFault.TheVariants.{Cut}
use Rattle.hk_base.specs.declared.plain.End.{End}
use Rattle.hk_base.specs.declared.plain.End.TheVariants as ends
use Rattle.hk_base.specs.declared.plain.OpEnd.{OpEnd}
use Rattle.hk_base.specs.declared.plain.OpEnd.TheVariants as op_ends
use Rattle.hk_spec_streams.specs.Pieces.{fault_of}
use Rattle.hk_spec_streams.specs.Grammar.{ends_at_start}
use Rattle.hk_spec_streams.specs.Station.{station_grammar, station_met, station_wrong}
use Rattle.hk_spec_streams.specs.Operator.{operator_grammar, operator_met, operator_wrong}
use Rattle.hk_spec_streams.proofs.NextFault.{fault_of-stays}
use Rattle.hk_spec_settings.specs.Settings.{Rules}
use Rattle.hk_outside.specs.Doors.{Doorway, Pair, HeldGate}
use Rattle.hk_spec_monitor.specs.Run.{Heard, Obeyed, Run}
use Rattle.hk_spec_monitor.specs.Fences.{is_ahead}
use Rattle.hk_spec_monitor.specs.Causes.{CauseOf, OperatorCauseOf, HasCauses}
use Rattle.hk_spec_monitor.specs.Summary.{is_ended, operator_is_ended}
use Rattle.hk_spec_monitor.specs.Setup.{Setup}
use Rattle.hk_spec_monitor.specs.Devices.{IsAtDoor, IsSound, EndsInOrder}

-- what was taken is a front of what was told, and the rest is left
front : (taken bytes : List ℕ) (left : Option (List ℕ)) → Took taken (Some bytes) left → (rest : List ℕ) × (left ≡ Some rest) × (bytes ≡ taken ++ rest)
front taken bytes None took = absurd (let no : Some bytes ≡ None = took in cc)
front taken bytes (Some rest) took = (rest, refl, let same : Some bytes ≡ Some (taken ++ rest) = took in cc)

module _ (met : List ℕ → Option WireFault) where
  -- a fault of a front is a fault of the whole
  fault_stays : (text more : List ℕ) (fault : WireFault) → fault_of met text ≡ Some fault → fault_of met (text ++ more) ≡ Some fault
  fault_stays text [] fault is = ap (fault_of met) (append-nil text) ∙ is
  fault_stays text (b ∷ more) fault is =
      let next = fault_of-stays met text b fault is in
      ap (fault_of met) (sym (append_assoc text (b ∷ []) more)) ∙ fault_stays (text ++ b ∷ []) more fault next.0

  module _ (at_end : List ℕ → Option WireFault) where
    abbrev wrong : List ℕ → Option WireFault
    wrong text = option_or (fault_of met text) (at_end text)

    -- Nothing is wrong with the whole stream, so nothing is wrong with what was taken of it where that has a fault or is all.
    none_wrong : (taken rest : List ℕ) (found : Option WireFault) (fault : WireFault) → fault_of met taken ≡ found → wrong (taken ++ rest) ≡ None → wrong taken ≡ Some fault
        → (found ≡ None → rest ≡ []) → ⊥
    none_wrong taken rest (Some early) fault is right is_wrong all =
        let whole : wrong (taken ++ rest) ≡ Some early = ap (λ o. option_or o (at_end (taken ++ rest))) (fault_stays taken rest early is) in
        let no : None ≡ Some early = sym right ∙ whole in
        absurd (cc)
    none_wrong taken rest None fault is right is_wrong all =
        let whole : taken ++ rest ≡ taken = ap (λ r. taken ++ r) (all refl) ∙ append-nil taken in
        let no : None ≡ Some fault = sym right ∙ ap wrong whole ∙ is_wrong in
        absurd (cc)

    not_wrong : (taken bytes : List ℕ) (old left : Option (List ℕ)) (fault : WireFault) → old ≡ Some bytes → wrong bytes ≡ None → Took taken old left → wrong taken ≡ Some fault
        → (fault_of met taken ≡ None → IsNothing left) → ⊥
    not_wrong taken bytes old left fault told right took is_wrong nothing =
        let parts = front taken bytes left (sym told ∙ took) in
        none_wrong taken parts.0 (fault_of met taken) fault refl (ap wrong (sym parts.2) ∙ right) is_wrong (λ none. subst IsNothing parts.1 (nothing none))

module _ (rules : Rules) where
  station_ended : (old new : Pair) (gate gate' : HeldGate) (h : Heard) (end : End) → IsSound (λ bytes. station_wrong rules.bytes bytes ≡ None) old new
      → (Rose gate.faults gate'.faults → ⊥) → Took h.taken old.gives.bytes new.gives.bytes → is_ahead end ≡ false → CauseOf rules old new gate gate' h end → is_ended end ≡ true
  station_ended old new gate gate' h ends.Ended sound quiet took met cause = refl
  station_ended old new gate gate' h (ends.Wire fault) sound quiet took met cause =
      absurd (not_wrong (station_met rules.bytes) (λ text. if ends_at_start station_grammar text then None else Some (Cut (length text)))
      h.taken sound.bytes old.gives.bytes new.gives.bytes fault sound.told sound.right took cause.0 cause.1)
  station_ended old new gate gate' h (ends.FenceAhead asked found) sound quiet took met cause = absurd (let no : true ≡ false = met in cc)
  station_ended old new gate gate' h ends.ReadFault sound quiet took met cause = absurd (sound.read cause.0)
  station_ended old new gate gate' h ends.SinkFault sound quiet took met cause = absurd (sound.written cause)
  station_ended old new gate gate' h ends.GateFault sound quiet took met cause = absurd (quiet cause.0)

  operator_ended : (old new : Pair) (o : Obeyed) (end : OpEnd) → IsSound (λ bytes. operator_wrong rules.bytes bytes ≡ None) old new
      → Took o.taken old.gives.bytes new.gives.bytes → OperatorCauseOf rules old new o end → operator_is_ended end ≡ true
  operator_ended old new o op_ends.Ended sound took cause = refl
  operator_ended old new o (op_ends.Wire fault) sound took cause =
      absurd (not_wrong (operator_met rules.bytes) (λ text. if (length text == 0) || ends_at_start operator_grammar text then None else Some (Cut (length text)))
      o.taken sound.bytes old.gives.bytes new.gives.bytes fault sound.told sound.right took cause.0 cause.1)
  operator_ended old new o op_ends.ReadFault sound took cause = absurd (sound.read cause.0)
  operator_ended old new o op_ends.SinkFault sound took cause = absurd (sound.written cause)

-- A test that each passes, by its number, all pass.
all_pass : {A : Type 0} (test : A → Bool) (xs : List A) → ((n : ℕ) (x : A) → slice_get xs n ≡ Some x → test x ≡ true) → list_all test xs ≡ true
all_pass test [] each = refl
all_pass test (x ∷ xs) each = ap (λ b. b && list_all test xs) (each 0 x refl) ∙ all_pass test xs (λ n y at. each (suc n) y at)

-- where nothing outside failed, all streams are in order and no fence was ahead, every stream ended in order
pub ends_in_order : (setup : Setup) (old new : Doorway) (run : Run) → 0 < setup.workers → IsAtDoor setup.rules old new run
    → HasCauses setup.rules setup.workers old new run → EndsInOrder setup old new run
ends_in_order setup old new run some door causes faultless none_ahead =
    let station : (n : ℕ) (h : Heard) → slice_get run.stations n ≡ Some h → is_ended h.end ≡ true = λ n h at.
    let within : n < length run.stations = slice_get_within run.stations n h at in
    let inside : n < setup.rules.stations = subst (λ count. n < count) door.count within in
    let met : is_ahead h.end ≡ false = subst (λ (g : Heard). is_ahead g.end ≡ false) (get_or_from_slice_get run.stations n h h at) (none_ahead n h within) in
    let gate : ℕ = n % setup.workers in
    station_ended setup.rules (old.stations n) (new.stations n) (old.gates gate) (new.gates gate) h h.end
    (faultless.stations n inside) (faultless.gates gate (mod_below n setup.workers some)) (door.links n h at) met (causes.stations n h at) in
    let operator : operator_is_ended run.operator.end ≡ true =
    operator_ended setup.rules old.operator new.operator run.operator run.operator.end faultless.operator door.calls causes.operator in
    ap (λ b. b && operator_is_ended run.operator.end) (all_pass (λ (h : Heard). is_ended h.end) run.stations station) ∙ operator
