-- What one byte more adds to what a station's bytes complete, and to the looks that are made.
use Rattle.std.proofs.Common.{◌≡◌, ℕ, ◌+◌, Bool, true, false, cond, Option, Some, None, List, [], ◌∷◌, ◌++◌, map, length, refl, sym, ◌∙◌, ap, arith, append-nil, length-append, inl, inr, option_map}
use Rattle.std.specs.Prelude.{find, nat_lt, is_some, unwrap_or}
use Rattle.std.specs.Option.{option_map_or}
use Rattle.std.specs.List.{enumerate_from, last_or}
use Rattle.std.proofs.lemmas.Bool.{lt-ltb, le-ltb}
use Rattle.hk_base.specs.declared.plain.WireFault.{WireFault}
use Rattle.hk_base.specs.declared.plain.End.{End}
use Rattle.hk_base.specs.declared.plain.End.TheVariants as ends
use Rattle.hk_spec_streams.specs.Pieces.{completed}
use Rattle.hk_spec_streams.specs.Station.{Fence, station_met, fences}
use Rattle.hk_spec_streams.specs.Blocks.{Block, Moment, Full, Asks, blocks, moments}
use Rattle.hk_spec_streams.proofs.Optional.{none_or_some}
use Rattle.hk_spec_settings.specs.Settings.{Rules}
use Rattle.hk_spec_runs.specs.Replay.{Listener, new_blocks}
use Rattle.hk_spec_runs.specs.Listening.{Instant, blocks_gained, looks_gained, after_one}
use Rattle.hk_spec_runs.proofs.Listening.{next_over, next_fault, next_on}
use Rattle.hk_spec_monitor.specs.Fences.{is_ahead}
use Rattle.hk_account.proofs.Moments.{moments-append, length-numbered}

-- whether a station ended by a fence
abbrev pub was_ahead : Option End → Bool
was_ahead end = option_map_or is_ahead end false

-- what a byte completes, as moments and as looks
abbrev pub moments_for : List Block → List Fence → List Moment
moments_for bs fs = map Full bs ++ map (λ (f : Fence). Asks f.asked) fs

abbrev pub looks_for : ℕ → List Block → List Fence → List ℕ
looks_for v bs fs = map (λ block. v) bs ++ map (λ fence. v) fs

-- the first of these fences that asks for more than a version
abbrev pub first_ahead : ℕ → List Fence → Option ℕ
first_ahead v fs = find (λ a. nat_lt v a) (map (λ (f : Fence). f.asked) fs)

-- the version after the looks
abbrev pub version_after : ℕ → List ℕ → ℕ
version_after v looks = unwrap_or (last_or (Some v) looks) 0

-- A listener's next byte: it completes these blocks and fences.
pub record Step (rules : Rules) (l : Listener) (i : Instant) : Type 0 where
  pub bs : List Block
  pub fs : List Fence
  pub looks : looks_gained rules i.version l i.byte ≡ looks_for i.version bs fs
  pub gained : map (λ block. i.version) (blocks_gained rules i.version l i.byte) ≡ map (λ block. i.version) bs
  pub stay : moments rules.setting (after_one rules l i).used ≡ moments rules.setting l.used ++ moments_for bs fs
  pub version : (after_one rules l i).version ≡ version_after l.version (looks_for i.version bs fs)
  pub over : (end : End) → l.end ≡ Some end → (bs ≡ []) × (fs ≡ [])
  pub goes : (after_one rules l i).end ≡ None → first_ahead i.version fs ≡ None
  pub wire : was_ahead (after_one rules l i).end ≡ false → first_ahead i.version fs ≡ None
  pub waits : (asked found : ℕ) → l.end ≡ None → (after_one rules l i).end ≡ Some (ends.FenceAhead asked found) → (found ≡ i.version) × (first_ahead i.version fs ≡ Some asked)
      × (fs ≡ completed fences (l.used ++ i.byte ∷ []))

-- the numbers of a fence ahead
found_of : Option End → ℕ
found_of (Some (ends.FenceAhead asked found)) = found
found_of (Some ends.SinkFault) = 0
found_of (Some ends.Ended) = 0
found_of (Some (ends.Wire fault)) = 0
found_of (Some ends.ReadFault) = 0
found_of (Some ends.GateFault) = 0
found_of None = 0

asked_of : Option End → ℕ
asked_of (Some (ends.FenceAhead asked found)) = asked
asked_of (Some ends.SinkFault) = 0
asked_of (Some ends.Ended) = 0
asked_of (Some (ends.Wire fault)) = 0
asked_of (Some ends.ReadFault) = 0
asked_of (Some ends.GateFault) = 0
asked_of None = 0

-- further looks at the version of the last one
pub at_one : (v : ℕ) (bs : List Block) (fs : List Fence) → version_after v (looks_for v bs fs) ≡ v
at_one v [] [] = refl
at_one v [] (f ∷ fs) = at_one v [] fs
at_one v (b ∷ bs) fs = at_one v bs fs

-- where a fence ahead would end it, and nothing did, no fence was ahead
pub none_first : (v : ℕ) (o : Option ℕ) → option_map (λ a. ends.FenceAhead a v) o ≡ None → o ≡ None
none_first v None none = refl
none_first v (Some a) none = absurd (let no : Some (ends.FenceAhead a v) ≡ None = none in cc)

-- the last of looks at one version
pub version_for : (w v : ℕ) (bs : List Block) (fs : List Fence) → version_after w (looks_for v bs fs) ≡ cond (nat_lt 0 (length bs + length (map (λ (f : Fence). f.asked) fs))) v w
version_for w v [] [] = refl
version_for w v [] (f ∷ fs) = at_one v [] fs ∙ sym (ap (λ c. cond c v w) (lt-ltb 0 (0 + length (map (λ (g : Fence). g.asked) (f ∷ fs))) (omega arith)))
version_for w v (b ∷ bs) fs = at_one v bs fs ∙ sym (ap (λ c. cond c v w) (lt-ltb 0 (length (b ∷ bs) + length (map (λ (g : Fence). g.asked) fs)) (omega arith)))

module _ (rules : Rules) where
  -- no block is gained where the bytes used stay
  none_new : (l m : Listener) → m.used ≡ l.used → new_blocks rules l m ≡ []
  none_new l m same =
      ap (λ c. cond c (enumerate_from (length (blocks rules.setting l.used)) (completed (blocks rules.setting) m.used)) [])
      (ap (λ used. nat_lt (length l.used) (length used)) same ∙ le-ltb (length l.used) (length l.used) (omega arith))

  -- a byte that isn't used
  idle : (l m : Listener) (i : Instant) → after_one rules l i ≡ m → m.used ≡ l.used → m.version ≡ l.version → looks_gained rules i.version l i.byte ≡ []
      → ((asked found : ℕ) → l.end ≡ None → m.end ≡ Some (ends.FenceAhead asked found) → ⊥) → Step rules l i
  idle l m i is used version none no_fence = record {
    bs = [];
    fs = [];
    looks = none;
    gained = ap (map (λ block. i.version)) (ap (new_blocks rules l) is ∙ none_new l m used);
    stay = ap (λ (n : Listener). moments rules.setting n.used) is ∙ ap (moments rules.setting) used ∙ sym (append-nil (moments rules.setting l.used));
    version = ap (λ (n : Listener). n.version) is ∙ version;
    over = λ end ended. (refl, refl);
    goes = λ going. refl;
    wire = λ not_ahead. refl;
    waits = λ asked found going ended. absurd (no_fence asked found going (sym (ap (λ (n : Listener). n.end) is) ∙ ended));
  }

  pub step : (l : Listener) (i : Instant) → Step rules l i
  unfolding found_of asked_of
  step l i = elim (none_or_some l.end) [
    | inr over ↦ idle l l i (next_over rules l i over.0 over.1) refl refl
        (ap (λ e. cond (is_some e) [] (cond (is_some (station_met rules.bytes text)) [] rest)) over.1)
        (λ asked found going ended. let no : Some (ends.FenceAhead asked found) ≡ None = sym ended ∙ going in cc)
    | inl going ↦ elim (none_or_some (station_met rules.bytes text)) [
      | inr fault ↦ idle l (record l { end = Some (ends.Wire fault.0) }) i (next_fault rules l i going fault.0 fault.1) refl refl
          (ap (λ e. cond (is_some e) [] (cond (is_some (station_met rules.bytes text)) [] rest)) going ∙ ap (λ o. cond (is_some o) [] rest) fault.1)
          (λ asked found none ended. wire_isnt fault.0 asked found ended)
      | inl fine ↦
          let next = next_on rules l i going fine in
          let used : (after_one rules l i).used ≡ text = ap (λ (m : Listener). m.used) next in
          let ended : (after_one rules l i).end ≡ option_map (λ a. ends.FenceAhead a i.version) (first_ahead i.version fs) = ap (λ (m : Listener). m.end) next in
          record {
            bs = bs;
            fs = fs;
            looks = ap (λ e. cond (is_some e) [] (cond (is_some (station_met rules.bytes text)) [] rest)) going ∙ ap (λ o. cond (is_some o) [] rest) fine;
            gained =
                let long : length text ≡ length l.used + 1 = length-append l.used (i.byte ∷ []) in
                ap (map (λ block. i.version)) (ap (λ t. cond (nat_lt (length l.used) (length t)) (enumerate_from n (completed (blocks rules.setting) t)) []) used
                ∙ ap (λ c. cond c (enumerate_from n bs) []) (lt-ltb (length l.used) (length text) (omega (arith, long))))
                ∙ length-numbered i.version n bs;
            stay = ap (moments rules.setting) used ∙ moments-append rules.setting l.used i.byte;
            version = ap (λ (m : Listener). m.version) next ∙ sym (version_for l.version i.version bs fs);
            over = λ end is. absurd (let no : Some end ≡ None = sym is ∙ going in cc);
            goes = λ none. none_first i.version (first_ahead i.version fs) (sym ended ∙ none);
            wire = λ not_ahead. not_first (first_ahead i.version fs) (sym (ap was_ahead ended) ∙ not_ahead);
            waits = λ asked found none is. (
              (first_is (first_ahead i.version fs) asked found (sym ended ∙ is)).0,
              (first_is (first_ahead i.version fs) asked found (sym ended ∙ is)).1,
              refl,
            );
          }
    ]
  ]
    where
      text : List ℕ
      text = l.used ++ i.byte ∷ []

      bs : List Block
      bs = completed (blocks rules.setting) text

      fs : List Fence
      fs = completed fences text

      n : ℕ
      n = length (blocks rules.setting l.used)

      rest : List ℕ
      rest = looks_for i.version bs fs

      wire_isnt : (fault : WireFault) (asked found : ℕ) → Some (ends.Wire fault) ≡ Some (ends.FenceAhead asked found) → ⊥
      wire_isnt fault asked found same = cc

      not_first : (o : Option ℕ) → was_ahead (option_map (λ a. ends.FenceAhead a i.version) o) ≡ false → o ≡ None
      not_first None none = refl
      not_first (Some a) none = absurd (let no : true ≡ false = none in cc)

      first_is : (o : Option ℕ) (asked found : ℕ) → option_map (λ a. ends.FenceAhead a i.version) o ≡ Some (ends.FenceAhead asked found) → (found ≡ i.version) × (o ≡ Some asked)
      first_is None asked found is = absurd (let no : None ≡ Some (ends.FenceAhead asked found) = is in cc)
      first_is (Some a) asked found is = (
        sym (ap found_of is),
        ap (λ e. Some (asked_of e)) is,
      )
