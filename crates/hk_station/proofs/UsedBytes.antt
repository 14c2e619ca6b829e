-- What a station used of the bytes that it was given.
use Rattle.std.proofs.Common.{◌≡◌, ◌≤◌, ◌<◌, ◌+◌, ℕ, List, [], ◌∷◌, ◌++◌, map, length, take, refl, sym, ◌∙◌, ap, subst, arith, append_assoc, append-nil, length-append, inl, inr, Bool, true, false, cond, Option, Some, None, option_map}
use Rattle.std.specs.Prelude.{⊤, find, nat_lt, ◌==◌, ◌&&◌, unwrap_or, is_some, slice_index, drop}
use Rattle.std.specs.Int.{w32, from_be_bytes}
use Rattle.std.specs.Option.{option_map_or}
use Rattle.std.proofs.Math.Seq.{take-append_seam}
use Rattle.std.proofs.lemmas.Bool.{eq-eqb, lt-ltb, le-ltb}
use Rattle.std.proofs.lemmas.Bool.Decides.{leb_tells, eqb_tells}
use Rattle.hk_base.specs.declared.plain.WireFault.{WireFault}
use Rattle.hk_base.specs.declared.plain.End.TheVariants as ends
use Rattle.hk_spec_matching.specs.Catalogue.{Rise}
use Rattle.hk_spec_matching.proofs.Rising.{Rise-le, Rise-split}
use Rattle.hk_spec_streams.specs.Pieces.{completed, first_met, pieces_within}
use Rattle.hk_spec_streams.specs.Grammar.{packets}
use Rattle.hk_spec_streams.specs.Station.{FENCE, Fence, fences, station_met, station_fault, station_seen, station_used, station_wrong}
use Rattle.hk_station_wire.specs.LastPacket.{last_packet}
use Rattle.hk_spec_streams.specs.Blocks.{blocks}
use Rattle.hk_spec_streams.proofs.NextFault.{seen_of-all, fault_of-none, fault_of-some, fault_of-stays}
use Rattle.hk_spec_streams.proofs.Optional.{none_or_some}
use Rattle.hk_station_wire.proofs.GrowingFences.{fence_in, fences-append, fences_completed}
use Rattle.hk_station_wire.proofs.WellFormed.{fits, no_open_fence}
use Rattle.hk_spec_settings.specs.Settings.{Rules}
use Rattle.hk_spec_runs.specs.Replay.{Listener}
use Rattle.hk_spec_runs.specs.Listening.{Instant, bytes_in, unheard, looks_gained, looks_over, after_one, after, UsesOf, UsesBytes}
use Rattle.hk_spec_runs.proofs.Listening.{next_over, next_fault, next_on}

-- each of these fences asks for at most this version
Met : ℕ → List Fence → Type 0
Met v [] = ⊤
Met v (fence ∷ fs) = (fence.asked ≤ v) × Met v fs

met_later : (v w : ℕ) (fs : List Fence) → v ≤ w → Met v fs → Met w fs
unfolding Met
met_later v w [] less met = tt
met_later v w (fence ∷ fs) less met = (omega (arith, less, met.0), met_later v w fs less met.1)

met_more : (v : ℕ) (fs : List Fence) (fence : Fence) → Met v fs → fence.asked ≤ v → Met v (fs ++ fence ∷ [])
unfolding Met
met_more v [] fence met less = (less, tt)
met_more v (f ∷ fs) fence met less = (met.0, met_more v fs fence met.1 less)

-- the first fence that asks for more than those before it
found_last : (v : ℕ) (fs : List Fence) (fence : Fence) → Met v fs → v < fence.asked → find (λ f. f.asked == fence.asked) (fs ++ fence ∷ []) ≡ Some fence
unfolding Met
found_last v [] fence met more = ap (λ c. cond c (Some fence) None) (eq-eqb fence.asked fence.asked refl)
found_last v (f ∷ fs) fence met more = elim (eqb_tells f.asked fence.asked) [
  | inl is ↦ absurd (omega (arith, is.1, met.0, more))
  | inr isnt ↦ ap (λ c. cond c (Some f) (find (λ g. g.asked == fence.asked) (fs ++ fence ∷ []))) isnt.0 ∙ found_last v fs fence met.1 more
]

-- what was found stays found
found_still : (a : ℕ) (fs gs : List Fence) (fence : Fence) → find (λ f. f.asked == a) fs ≡ Some fence → find (λ f. f.asked == a) (fs ++ gs) ≡ Some fence
found_still a [] gs fence is = absurd (let no : None ≡ Some fence = is in cc)
found_still a (f ∷ fs) gs fence is = elim (eqb_tells f.asked a) [
  | inl same ↦ ap (λ c. cond c (Some f) (find (λ g. g.asked == a) (fs ++ gs))) same.0 ∙ sym (ap (λ c. cond c (Some f) (find (λ g. g.asked == a) fs)) same.0) ∙ is
  | inr other ↦ ap (λ c. cond c (Some f) (find (λ g. g.asked == a) (fs ++ gs))) other.0
      ∙ found_still a fs gs fence (sym (ap (λ c. cond c (Some f) (find (λ g. g.asked == a) fs)) other.0) ∙ is)
]

-- the last of these versions is between
last_rises : {A : Type 0} (from w to : ℕ) (xs : List A) → Rise from (map (λ x. w) xs ++ w ∷ []) to → (from ≤ w) × (w ≤ to)
last_rises from w to [] rise = rise
last_rises from w to (x ∷ xs) rise = let rest : (w ≤ w) × (w ≤ to) = last_rises w w to xs rise.1 in (rise.0, rest.1)

module _ (rules : Rules) where
  fences_more : (text : List ℕ) (b : ℕ) → station_fault rules.bytes text ≡ None → fences (text ++ b ∷ []) ≡ fences text ++ fence_in (length text) (last_packet (text ++ b ∷ []))
  fences_more text b none = fences-append text b (λ place part. no_open_fence (last_packet text) place (fits rules.bytes text none) part)

  -- What a listener has used of these bytes, when no look was above this version.
  data State (l : Listener) (bytes : List ℕ) (v : ℕ) : Type 0 where
    Goes : l.end ≡ None → l.used ≡ bytes → station_fault rules.bytes bytes ≡ None → Met v (fences bytes) → State l bytes v
    Fails : (fault : WireFault) → l.end ≡ Some (ends.Wire fault) → station_fault rules.bytes bytes ≡ Some fault → station_seen rules.bytes bytes ≡ l.used → State l bytes v
    Waits : (asked found : ℕ) (fence : Fence) (rest : List ℕ) → l.end ≡ Some (ends.FenceAhead asked found) → station_seen rules.bytes bytes ≡ l.used ++ rest
        → station_fault rules.bytes (l.used ++ rest) ≡ None → find (λ f. f.asked == asked) (fences (l.used ++ rest)) ≡ Some fence → fence.place + 1 ≡ length l.used → State l bytes v

  -- a byte of a listener that goes on, and that meets no fault: what it asks for decides
  goes_by : (l : Listener) (i : Instant) (v to : ℕ) (c : Bool) (fence : Fence) → l.end ≡ None → station_fault rules.bytes l.used ≡ None → Met v (fences l.used)
      → station_met rules.bytes (l.used ++ i.byte ∷ []) ≡ None → Rise v (looks_gained rules i.version l i.byte) to → fence.place ≡ length l.used
      → completed fences (l.used ++ i.byte ∷ []) ≡ cond c (fence ∷ []) [] → fences (l.used ++ i.byte ∷ []) ≡ fences l.used ++ cond c (fence ∷ []) []
      → State (after_one rules l i) (l.used ++ i.byte ∷ []) to
  goes_by l i v to false fence going none met fine rise place done grown =
      let none_after : station_fault rules.bytes (l.used ++ i.byte ∷ []) ≡ None = fault_of-none (station_met rules.bytes) l.used i.byte none fine in
      let next = next_on rules l i going fine in
      Goes (ap (λ (m : Listener). m.end) next ∙ ap (λ fs. option_map (λ a. ends.FenceAhead a i.version) (find (λ a. nat_lt i.version a) (map (λ (f : Fence). f.asked) fs))) done)
      (ap (λ (m : Listener). m.used) next) none_after
      (subst (Met to) (sym (grown ∙ append-nil (fences l.used))) (met_later v to (fences l.used) (Rise-le v to (looks_gained rules i.version l i.byte) rise) met))
  goes_by l i v to true fence going none met fine rise place done grown =
      let none_after : station_fault rules.bytes (l.used ++ i.byte ∷ []) ≡ None = fault_of-none (station_met rules.bytes) l.used i.byte none fine in
      let all : List ℕ = map (λ block. i.version) (completed (blocks rules.setting) (l.used ++ i.byte ∷ [])) in
      let rest : List ℕ = all ++ map (λ fence. i.version) (completed fences (l.used ++ i.byte ∷ [])) in
      let looks : looks_gained rules i.version l i.byte ≡ all ++ i.version ∷ [] =
      ap (λ e. cond (is_some e) [] (cond (is_some (station_met rules.bytes (l.used ++ i.byte ∷ []))) [] rest)) going
      ∙ ap (λ o. cond (is_some o) [] rest) fine ∙ ap (λ fs. all ++ map (λ fence. i.version) fs) done in
      let between : (v ≤ i.version) × (i.version ≤ to) =
      last_rises v i.version to (completed (blocks rules.setting) (l.used ++ i.byte ∷ [])) (subst (λ vs. Rise v vs to) looks rise) in
      let next = next_on rules l i going fine in
      let used : (after_one rules l i).used ≡ l.used ++ i.byte ∷ [] = ap (λ (m : Listener). m.used) next in
      let ends_so : (after_one rules l i).end ≡ option_map (λ a. ends.FenceAhead a i.version) (cond (nat_lt i.version fence.asked) (Some fence.asked) None) =
      ap (λ (m : Listener). m.end) next ∙ ap (λ fs. option_map (λ a. ends.FenceAhead a i.version) (find (λ a. nat_lt i.version a) (map (λ (f : Fence). f.asked) fs))) done in
      elim (leb_tells fence.asked i.version) [
        | inr ahead ↦
            let long : length (l.used ++ i.byte ∷ []) ≡ length l.used + 1 = length-append l.used (i.byte ∷ []) in
            let same : (after_one rules l i).used ++ [] ≡ l.used ++ i.byte ∷ [] = append-nil (after_one rules l i).used ∙ used in
            Waits fence.asked i.version fence []
            (ends_so ∙ ap (λ c. option_map (λ a. ends.FenceAhead a i.version) (cond c (Some fence.asked) None)) (lt-ltb i.version fence.asked ahead.1))
            (seen_of-all (station_met rules.bytes) (l.used ++ i.byte ∷ []) none_after ∙ sym same)
            (ap (station_fault rules.bytes) same ∙ none_after)
            (ap (λ t. find (λ f. f.asked == fence.asked) (fences t)) same ∙ ap (find (λ f. f.asked == fence.asked)) grown
            ∙ found_last v (fences l.used) fence met (omega (arith, between.0, ahead.1)))
            (let size : length (after_one rules l i).used ≡ length (l.used ++ i.byte ∷ []) = ap length used in omega (arith, place, long, size))
        | inl below ↦ Goes (ends_so ∙ ap (λ c. option_map (λ a. ends.FenceAhead a i.version) (cond c (Some fence.asked) None)) (le-ltb i.version fence.asked below.1)) used none_after
            (subst (Met to) (sym grown) (met_more to (fences l.used) fence (met_later v to (fences l.used) (omega (arith, between.0, between.1)) met) (omega (arith, below.1, between.1))))
      ]

  -- one byte more
  step : (l : Listener) (bytes : List ℕ) (v to : ℕ) (i : Instant) → State l bytes v → Rise v (looks_gained rules i.version l i.byte) to → State (after_one rules l i) (bytes ++ i.byte ∷ []) to
  step l bytes v to i (Goes going same none met) rise = subst (λ t. State (after_one rules l i) (t ++ i.byte ∷ []) to) same
      (elim (none_or_some (station_met rules.bytes (l.used ++ i.byte ∷ []))) [
        | inr fault ↦
            let next = next_fault rules l i going fault.0 fault.1 in
            let is = fault_of-some (station_met rules.bytes) l.used i.byte fault.0 none_used fault.1 in
            Fails fault.0 (ap (λ (m : Listener). m.end) next) is.0 (is.1 ∙ sym (ap (λ (m : Listener). m.used) next))
        | inl fine ↦
            let packet : List ℕ = last_packet (l.used ++ i.byte ∷ []) in
            goes_by l i v to ((slice_index packet 0 == FENCE) && (length packet == 7)) (record { asked = from_be_bytes w32 (drop 3 packet); place = length l.used }) going none_used
            (subst (λ t. Met v (fences t)) (sym same) met) fine rise refl (fences_completed l.used i.byte) (fences_more l.used i.byte none_used)
      ])
    where
      none_used : station_fault rules.bytes l.used ≡ None
      none_used = ap (station_fault rules.bytes) same ∙ none
  step l bytes v to i (Fails fault ended is seen) rise =
      let stays = fault_of-stays (station_met rules.bytes) bytes i.byte fault is in
      subst (λ m. State m (bytes ++ i.byte ∷ []) to) (sym (next_over rules l i (ends.Wire fault) ended)) (Fails fault ended stays.0 (stays.1 ∙ seen))
  step l bytes v to i (Waits asked found fence rest ended seen fine is place) rise =
      subst (λ m. State m (bytes ++ i.byte ∷ []) to) (sym (next_over rules l i (ends.FenceAhead asked found) ended))
      (elim (none_or_some (station_fault rules.bytes bytes)) [
        | inr fault ↦
            let stays = fault_of-stays (station_met rules.bytes) bytes i.byte fault.0 fault.1 in
            Waits asked found fence rest ended (stays.1 ∙ seen) fine is place
        | inl none ↦ elim (none_or_some (station_met rules.bytes (bytes ++ i.byte ∷ []))) [
          | inr fault ↦
              let meets = fault_of-some (station_met rules.bytes) bytes i.byte fault.0 none fault.1 in
              Waits asked found fence rest ended (meets.1 ∙ sym (seen_of-all (station_met rules.bytes) bytes none) ∙ seen) fine is place
          | inl met ↦
              let all : bytes ≡ l.used ++ rest = sym (seen_of-all (station_met rules.bytes) bytes none) ∙ seen in
              let longer : bytes ++ i.byte ∷ [] ≡ l.used ++ (rest ++ i.byte ∷ []) = ap (λ t. t ++ i.byte ∷ []) all ∙ append_assoc l.used rest (i.byte ∷ []) in
              let none_after : station_fault rules.bytes (bytes ++ i.byte ∷ []) ≡ None = fault_of-none (station_met rules.bytes) bytes i.byte none met in
              Waits asked found fence (rest ++ i.byte ∷ []) ended (seen_of-all (station_met rules.bytes) (bytes ++ i.byte ∷ []) none_after ∙ longer)
              (ap (station_fault rules.bytes) (sym longer) ∙ none_after)
              (ap (λ t. find (λ f. f.asked == asked) (fences t)) (sym longer) ∙ ap (find (λ f. f.asked == asked)) (fences_more bytes i.byte none)
              ∙ found_still asked (fences bytes) (fence_in (length bytes) (last_packet (bytes ++ i.byte ∷ []))) fence (ap (λ t. find (λ f. f.asked == asked) (fences t)) all ∙ is))
              place
        ]
      ])

  steps : (l : Listener) (bytes : List ℕ) (v to : ℕ) (instants : List Instant) → State l bytes v → Rise v (looks_over rules l instants) to → State (after rules l instants) (bytes ++ bytes_in instants) to
  steps l bytes v to [] state rise = subst (λ t. State l t to) (sym (append-nil bytes)) (later state)
    where
      later : State l bytes v → State l bytes to
      later (Goes going same none met) = Goes going same none (met_later v to (fences bytes) rise met)
      later (Fails fault ended is seen) = Fails fault ended is seen
      later (Waits asked found fence rest ended seen fine is place) = Waits asked found fence rest ended seen fine is place
  steps l bytes v to (i ∷ instants) state rise =
      let parts = Rise-split v to (looks_gained rules i.version l i.byte) (looks_over rules (after_one rules l i) instants) rise in
      subst (λ t. State (after rules (after_one rules l i) instants) t to) (append_assoc bytes (i.byte ∷ []) (bytes_in instants))
      (steps (after_one rules l i) (bytes ++ i.byte ∷ []) parts.0 to instants (step l bytes v parts.0 i state parts.1) parts.2)

  by_end : (o : Option WireFault) (text : List ℕ) → station_used rules.bytes (option_map_or (λ fault. ends.Wire fault) o ends.Ended) text ≡ station_seen rules.bytes text
  by_end None text = refl
  by_end (Some fault) text = refl

  uses : (l : Listener) (bytes : List ℕ) (v : ℕ) → State l bytes v → UsesOf rules l bytes
  uses l bytes v (Goes going same none met) =
      let seen : l.used ≡ station_seen rules.bytes bytes = same ∙ sym (seen_of-all (station_met rules.bytes) bytes none) in
      let wrong : Option WireFault = station_wrong rules.bytes l.used in
      record {
        used = seen ∙ sym (by_end wrong bytes) ∙ sym (ap (λ e. station_used rules.bytes (unwrap_or e (option_map_or (λ fault. ends.Wire fault) wrong ends.Ended)) bytes) going);
        going = λ is. seen;
      }
  uses l bytes v (Fails fault ended is seen) =
      let wrong : Option WireFault = station_wrong rules.bytes l.used in
      record {
        used = sym seen ∙ sym (ap (λ e. station_used rules.bytes (unwrap_or e (option_map_or (λ fault. ends.Wire fault) wrong ends.Ended)) bytes) ended);
        going = λ none. sym seen;
      }
  uses l bytes v (Waits asked found fence rest ended seen fine is place) =
      let wrong : Option WireFault = station_wrong rules.bytes l.used in
      let front : take (fence.place + 1) (l.used ++ rest) ≡ l.used = ap (λ n. take n (l.used ++ rest)) place ∙ take-append_seam l.used rest in
      record {
        used = sym (ap (λ e. station_used rules.bytes (unwrap_or e (option_map_or (λ fault. ends.Wire fault) wrong ends.Ended)) bytes) ended
            ∙ ap (λ t. option_map_or (λ (f : Fence). take (f.place + 1) t) (find (λ f. f.asked == asked) (fences t)) t) seen
            ∙ ap (λ o. option_map_or (λ (f : Fence). take (f.place + 1) (l.used ++ rest)) o (l.used ++ rest)) is ∙ front);
        going = λ none. absurd (let no : Some (ends.FenceAhead asked found) ≡ None = sym ended ∙ none in cc);
      }

  -- the law of the bytes used
  pub uses_bytes : UsesBytes rules
  unfolding first_met Met fences packets pieces_within
  uses_bytes instants to rise =
      uses (after rules unheard instants) (bytes_in instants) to (steps unheard [] 0 to instants (Goes refl refl refl tt) rise)
