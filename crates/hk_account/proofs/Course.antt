-- What a listener's end says of its bytes, and that each fence of bytes without a fault was met.
use Rattle.std.proofs.Common.{◌≡◌, ◌≤◌, ℕ, zero, suc, Bool, true, false, cond, Option, Some, None, List, [], ◌∷◌, ◌++◌, All, refl, sym, ◌∙◌, ap, subst, arith, append-nil, append_assoc, inl, inr, option_map}
use Rattle.std.specs.Prelude.{⊤, nat_lt, is_some}
use Rattle.std.proofs.lemmas.Bool.{lt-ltb}
use Rattle.std.proofs.lemmas.Bool.Decides.{leb_tells}
use Rattle.hk_base.specs.declared.plain.WireFault.{WireFault}
use Rattle.hk_base.specs.declared.plain.End.{End}
use Rattle.hk_base.specs.declared.plain.End.TheVariants as ends
use Rattle.hk_spec_matching.specs.Catalogue.{Rise}
use Rattle.hk_spec_matching.proofs.Rising.{Rise-split}
use Rattle.hk_spec_streams.specs.Pieces.{completed, first_met, pieces_within}
use Rattle.hk_spec_streams.specs.Grammar.{packets}
use Rattle.hk_spec_streams.specs.Station.{Fence, fences, station_met, station_fault}
use Rattle.hk_spec_streams.specs.Blocks.{Block, blocks}
use Rattle.hk_spec_streams.proofs.NextFault.{fault_of-none, fault_of-some, fault_of-stays}
use Rattle.hk_spec_streams.proofs.Optional.{none_or_some}
use Rattle.hk_station_wire.specs.LastPacket.{last_packet}
use Rattle.hk_station_wire.proofs.GrowingFences.{fences-append, fences_completed}
use Rattle.hk_station_wire.proofs.WellFormed.{fits, no_open_fence}
use Rattle.hk_spec_settings.specs.Settings.{Rules}
use Rattle.hk_spec_runs.specs.Replay.{Listener}
use Rattle.hk_spec_runs.specs.Listening.{Instant, bytes_in, unheard, looks_gained, looks_over, after_one, after}
use Rattle.hk_spec_runs.proofs.Listening.{next_over, next_fault, next_on}
use Rattle.hk_account.proofs.Steps.{looks_for, first_ahead, version_after, version_for, Step, step, at_one, none_first}

-- each of these fences asks for at most this version
abbrev pub MetBy : ℕ → List Fence → Type 0
MetBy v [] = ⊤
MetBy v (fence ∷ fs) = (fence.asked ≤ v) × MetBy v fs

met_later : (v w : ℕ) (fs : List Fence) → v ≤ w → MetBy v fs → MetBy w fs
met_later v w [] less met = tt
met_later v w (fence ∷ fs) less met = (omega (arith, less, met.0), met_later v w fs less met.1)

met_both : (v : ℕ) (fs gs : List Fence) → MetBy v fs → MetBy v gs → MetBy v (fs ++ gs)
met_both v [] gs first second = second
met_both v (fence ∷ fs) gs first second = (first.0, met_both v fs gs first.1 second)

pub all_met : (v : ℕ) (fs : List Fence) → MetBy v fs → All (λ fence. fence.asked ≤ v) fs
all_met v [] met k d less = absurd (omega (arith, less))
all_met v (fence ∷ fs) met zero d less = met.0
all_met v (fence ∷ fs) met (suc k) d less = all_met v fs met.1 k d (omega (arith, less))

-- none of these fences asks for more
none_more : (v : ℕ) (fs : List Fence) → first_ahead v fs ≡ None → MetBy v fs
none_more v [] none = tt
none_more v (f ∷ fs) none = elim (leb_tells f.asked v) [
  | inr above ↦ absurd (let some : Some f.asked ≡ None = sym (ap (λ c. cond c (Some f.asked) (first_ahead v fs)) (lt-ltb v f.asked above.1)) ∙ none in cc)
  | inl below ↦ (below.1, none_more v fs (rest v f fs below.1 none))
]
  where
    rest : (v : ℕ) (f : Fence) (fs : List Fence) → f.asked ≤ v → first_ahead v (f ∷ fs) ≡ None → first_ahead v fs ≡ None
    rest v f fs below none = elim (leb_tells f.asked v) [
      | inr above ↦ absurd (omega (arith, below, above.1))
      | inl is ↦ by (nat_lt v f.asked) none
    ]
      where
        by : (c : Bool) → cond c (Some f.asked) (first_ahead v fs) ≡ None → first_ahead v fs ≡ None
        by true none = absurd (let no : Some f.asked ≡ None = none in cc)
        by false none = none

-- the looks of fences that were met leave at least the version that these ask for
last_v : (w v : ℕ) (bs : List Block) (f : Fence) (fs : List Fence) → version_after w (looks_for v bs (f ∷ fs)) ≡ v
last_v w v [] f fs = at_one v [] fs
last_v w v (b ∷ bs) f fs = last_v v v bs f fs

met_for : (w v : ℕ) (bs : List Block) (fs : List Fence) → first_ahead v fs ≡ None → MetBy (version_after w (looks_for v bs fs)) fs
met_for w v bs [] none = tt
met_for w v bs (f ∷ fs) none = subst (λ u. MetBy u (f ∷ fs)) (sym (last_v w v bs f fs)) (none_more v (f ∷ fs) none)

rise_to_last : (from to : ℕ) (looks : List ℕ) → Rise from looks to → from ≤ version_after from looks
rise_to_last from to [] rise = omega arith
rise_to_last from to (v ∷ looks) rise = let rest : v ≤ version_after v looks = rise_to_last v to looks rise.1 in omega (arith, rise.0, rest)

rise_rest : (from to : ℕ) (xs ys : List ℕ) → Rise from (xs ++ ys) to → Rise (version_after from xs) ys to
rise_rest from to [] ys rise = rise
rise_rest from to (x ∷ xs) ys rise = rise_rest x to xs ys rise.1

-- ends that a listener comes to by itself
abbrev pub IsOwn : End → Type 0
IsOwn (ends.Wire fault) = ⊤
IsOwn (ends.FenceAhead asked found) = ⊤
IsOwn ends.Ended = ⊥
IsOwn ends.ReadFault = ⊥
IsOwn ends.SinkFault = ⊥
IsOwn ends.GateFault = ⊥

-- What a listener that was given these bytes has come to.
pub record Course (rules : Rules) (l : Listener) (bytes : List ℕ) : Type 0 where
  pub going : l.end ≡ None → (l.used ≡ bytes) × (station_fault rules.bytes bytes ≡ None) × MetBy l.version (fences bytes)
  pub fails : (fault : WireFault) → l.end ≡ Some (ends.Wire fault) → station_fault rules.bytes bytes ≡ Some fault
  pub own : (end : End) → l.end ≡ Some end → IsOwn end

pub end_is : (x y : End) → Some x ≡ Some y → x ≡ y
end_is x y same = cc

module _ (rules : Rules) where
  fences_more : (text : List ℕ) (b : ℕ) → station_fault rules.bytes text ≡ None → fences (text ++ b ∷ []) ≡ fences text ++ completed fences (text ++ b ∷ [])
  fences_more text b none =
      fences-append text b (λ place part. no_open_fence (last_packet text) place (fits rules.bytes text none) part)
      ∙ ap (λ fs. fences text ++ fs) (sym (fences_completed text b))

  -- a listener that is over stays, and so does the fault that ended it
  over_step : (l : Listener) (bytes : List ℕ) (i : Instant) (end : End) → l.end ≡ Some end → Course rules l bytes → Course rules (after_one rules l i) (bytes ++ i.byte ∷ [])
  over_step l bytes i end over course = subst (λ m. Course rules m (bytes ++ i.byte ∷ [])) (sym (next_over rules l i end over)) (record {
    going = λ none. absurd (let no : Some end ≡ None = sym over ∙ none in cc);
    fails = λ fault is. (fault_of-stays (station_met rules.bytes) bytes i.byte fault (course.fails fault is)).0;
    own = course.own;
  })

  -- a byte that meets a fault
  fault_step : (l : Listener) (i : Instant) (fault : WireFault) → l.end ≡ None → station_fault rules.bytes l.used ≡ None → station_met rules.bytes (l.used ++ i.byte ∷ []) ≡ Some fault
      → Course rules (after_one rules l i) (l.used ++ i.byte ∷ [])
  fault_step l i fault going none met =
      subst (λ m. Course rules m (l.used ++ i.byte ∷ [])) (sym (next_fault rules l i going fault met)) (record {
        going = λ isnt. absurd (let no : Some (ends.Wire fault) ≡ None = isnt in cc);
        fails = λ other is.
            (fault_of-some (station_met rules.bytes) l.used i.byte fault none met).0
            ∙ (let same : Some (ends.Wire fault) ≡ Some (ends.Wire other) = is in let one : fault ≡ other = cc in ap (λ f. Some f) one);
        own = λ end is. subst IsOwn (end_is (ends.Wire fault) end is) tt;
      })

  -- a byte that meets none
  fine_step : (l : Listener) (i : Instant) (to : ℕ) → l.end ≡ None → station_fault rules.bytes l.used ≡ None → MetBy l.version (fences l.used)
      → station_met rules.bytes (l.used ++ i.byte ∷ []) ≡ None → Rise l.version (looks_gained rules i.version l i.byte) to → Course rules (after_one rules l i) (l.used ++ i.byte ∷ [])
  fine_step l i to going none met fine rise =
      let text : List ℕ = l.used ++ i.byte ∷ [] in
      let bs : List Block = completed (blocks rules.setting) text in
      let fs : List Fence = completed fences text in
      let next = next_on rules l i going fine in
      let ended : (after_one rules l i).end ≡ option_map (λ a. ends.FenceAhead a i.version) (first_ahead i.version fs) = ap (λ (m : Listener). m.end) next in
      let version : (after_one rules l i).version ≡ version_after l.version (looks_for i.version bs fs) = ap (λ (m : Listener). m.version) next ∙ sym (version_for l.version i.version bs fs) in
      let looks : looks_gained rules i.version l i.byte ≡ looks_for i.version bs fs =
      ap (λ e. cond (is_some e) [] (cond (is_some (station_met rules.bytes text)) [] (looks_for i.version bs fs))) going ∙ ap (λ o. cond (is_some o) [] (looks_for i.version bs fs)) fine in
      let grows : l.version ≤ version_after l.version (looks_for i.version bs fs) = rise_to_last l.version to (looks_for i.version bs fs) (subst (λ vs. Rise l.version vs to) looks rise) in
      record {
        going = λ isnt. (
          ap (λ (m : Listener). m.used) next,
          fault_of-none (station_met rules.bytes) l.used i.byte none fine,
          subst (λ v. MetBy v (fences text)) (sym version) (subst (MetBy (version_after l.version (looks_for i.version bs fs))) (sym (fences_more l.used i.byte none))
              (met_both (version_after l.version (looks_for i.version bs fs)) (fences l.used) fs (met_later l.version (version_after l.version (looks_for i.version bs fs)) (fences l.used) grows met)
              (met_for l.version i.version bs fs (none_first i.version (first_ahead i.version fs) (sym ended ∙ isnt))))),
        );
        fails = λ fault is. absurd (no_wire (first_ahead i.version fs) fault (sym ended ∙ is));
        own = λ end is. is_own (first_ahead i.version fs) end (sym ended ∙ is);
      }
    where
      no_wire : (o : Option ℕ) (fault : WireFault) → option_map (λ a. ends.FenceAhead a i.version) o ≡ Some (ends.Wire fault) → ⊥
      no_wire None fault is = let no : None ≡ Some (ends.Wire fault) = is in cc
      no_wire (Some a) fault is = let no : Some (ends.FenceAhead a i.version) ≡ Some (ends.Wire fault) = is in cc

      is_own : (o : Option ℕ) (end : End) → option_map (λ a. ends.FenceAhead a i.version) o ≡ Some end → IsOwn end
      is_own None end is = absurd (let no : None ≡ Some end = is in cc)
      is_own (Some a) end is = subst IsOwn (end_is (ends.FenceAhead a i.version) end is) tt

  one_step : (l : Listener) (bytes : List ℕ) (i : Instant) (to : ℕ) → Course rules l bytes → Rise l.version (looks_gained rules i.version l i.byte) to → Course rules (after_one rules l i) (bytes ++ i.byte ∷ [])
  one_step l bytes i to course rise = elim (none_or_some l.end) [
    | inr over ↦ over_step l bytes i over.0 over.1 course
    | inl going ↦
        let now = course.going going in
        let none : station_fault rules.bytes l.used ≡ None = ap (station_fault rules.bytes) now.0 ∙ now.1 in
        subst (λ t. Course rules (after_one rules l i) (t ++ i.byte ∷ [])) now.0
        (elim (none_or_some (station_met rules.bytes (l.used ++ i.byte ∷ []))) [
          | inr fault ↦ fault_step l i fault.0 going none fault.1
          | inl fine ↦ fine_step l i to going none (subst (λ t. MetBy l.version (fences t)) (sym now.0) now.2) fine rise
        ])
  ]

  -- all bytes, where the versions of the looks don't fall
  course_from : (l : Listener) (bytes : List ℕ) (to : ℕ) (instants : List Instant) → Course rules l bytes → Rise l.version (looks_over rules l instants) to
      → Course rules (after rules l instants) (bytes ++ bytes_in instants)
  course_from l bytes to [] course rise = subst (Course rules l) (sym (append-nil bytes)) course
  course_from l bytes to (i ∷ rest) course rise =
      let this : Step rules l i = step rules l i in
      let tail : List ℕ = looks_over rules (after_one rules l i) rest in
      let parts = Rise-split l.version to (looks_gained rules i.version l i.byte) tail rise in
      let version : (after_one rules l i).version ≡ version_after l.version (looks_gained rules i.version l i.byte) = this.version ∙ ap (version_after l.version) (sym this.looks) in
      let next : Course rules (after_one rules l i) (bytes ++ i.byte ∷ []) = one_step l bytes i parts.0 course parts.1 in
      subst (Course rules (after rules (after_one rules l i) rest)) (append_assoc bytes (i.byte ∷ []) (bytes_in rest))
      (course_from (after_one rules l i) (bytes ++ i.byte ∷ []) to rest next
      (subst (λ v. Rise v tail to) (sym version) (rise_rest l.version to (looks_gained rules i.version l i.byte) tail rise)))

  pub course : (instants : List Instant) (to : ℕ) → Rise 0 (looks_over rules unheard instants) to → Course rules (after rules unheard instants) (bytes_in instants)
  unfolding first_met fences packets pieces_within
  course instants to rise = course_from unheard [] to instants (record {
    going = λ none. (refl, refl, tt);
    fails = λ fault is. absurd (let no : None ≡ Some (ends.Wire fault) = is in cc);
    own = λ end is. absurd (let no : None ≡ Some end = is in cc);
  }) rise
