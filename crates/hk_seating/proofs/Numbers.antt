-- What stations did, by number.
use Rattle.std.proofs.Common.{◌≡◌, ◌∙◌, ◌+◌, ◌%◌, ◌<◌, ℕ, false, List, [], length, Some, slice_get, slice_index_or, option_map, refl, sym, ap, subst, subst₂, arith}
use Rattle.std.specs.List.{All}
use Rattle.std.proofs.Math.ListN.{length-map}
use Rattle.std.proofs.lemmas.Option.{slice_get-get_or, get_or_from_slice_get, slice_get_within, slice_get-map}
use Rattle.hk_base.specs.declared.sink.Sink as sinks
use Rattle.hk_outside.specs.declared.link.Link as links
use Rattle.hk_spec_matching.specs.Catalogue.{Journal}
use Rattle.hk_spec_settings.specs.Settings.{Rules}
use Rattle.hk_spec_monitor.specs.Run.{Heard}
use Rattle.hk_spec_monitor.specs.Causes.{is_gate_fault}
use Rattle.hk_spec_monitor.proofs.Legal.{some_of}
use Rattle.hk_loop.specs.declared.seat.Seat.{Seat}
use Rattle.hk_loop.specs.Rows.{Each}
use Rattle.hk_publish.specs.Known.{Known}
use Rattle.hk_publish.specs.Holding.{Holding}
use Rattle.hk_monitor.specs.declared.crew.Crewman.{Crewman}
use Rattle.hk_monitor.specs.Rows.{EachOf, IsOneOf}
use Rattle.hk_monitor.specs.Seats.{DidInRun, HasSeenAll}
use Rattle.hk_monitor.specs.Crew.{DidAtGate}
use Rattle.hk_monitor.proofs.Gathering.{entry}
use Rattle.hk_seating.specs.Dealing.{dealt}
use Rattle.hk_seating.specs.Seating.{AreSeated, gates_of, rows_of}
use Rattle.hk_seating.specs.ByNumber.{DidByNumber, SeatedDidByNumber}
use Rattle.hk_seating.proofs.Dealt.{row, has_place, has_number}
use Rattle.hk_seating.proofs.Alike.{AlikeFrom, dealt_alike}
use Rattle.hk_seating.proofs.Seats.{row_of}

from_zero : (n rows w : ℕ) → (0 + n) % rows ≡ w → n % rows ≡ w
from_zero n rows w is = let e : n ≡ 0 + n = omega arith in ap (λ (m : ℕ). m % rows) e ∙ is

-- the gate of a worker
gate_is : {K S G V : Type 0} (crew : List (Crewman K S G V)) (w : ℕ) (worker : Crewman K S G V) (gate : G) → slice_get crew w ≡ Some worker → slice_get (gates_of crew) w ≡ Some gate
    → worker.gate ≡ gate
gate_is {K} {S} {G} {V} crew w worker gate at at_gate =
    let look : Crewman K S G V → G = λ member. member.gate in
    some_of worker.gate gate (sym (slice_get-map look crew w ∙ ap (option_map look) at) ∙ at_gate)

module _ {K S G : Type 0} (link : links.Ghosts K) (sink : sinks.Ghosts S) (faults : G → ℕ) (rules : Rules) (journal : Journal) (desk : Holding) (crew crew' : List (Crewman K S G Known)) where
  -- what a station of worker w did, and what its view has seen
  abbrev Did : ℕ → Seat K S Known → Seat K S Known → Heard → Type 0
  Did w first now h =
      ((gate gate' : G) → slice_get (gates_of crew) w ≡ Some gate → slice_get (gates_of crew') w ≡ Some gate' → DidInRun link sink rules journal (faults gate) (faults gate') first now h)
      × HasSeenAll desk first.view now.view

  module _ (w : ℕ) (old new : Crewman K S G Known) (hs : List Heard) (at_old : slice_get crew w ≡ Some old) (at_new : slice_get crew' w ≡ Some new)
      (it : DidAtGate link sink faults rules journal old new hs) where
    gate_stays : (gate gate' : G) → slice_get (gates_of crew) w ≡ Some gate → slice_get (gates_of crew') w ≡ Some gate' → All (λ h. is_gate_fault h.end ≡ false) hs
        → faults gate' ≡ faults gate
    gate_stays gate gate' at at' none = ap faults (sym (gate_is crew' w new gate' at_new at')) ∙ it.gate none ∙ ap faults (gate_is crew w old gate at_old at)

    at_seat : Each (λ first now. HasSeenAll desk first.view now.view) old.seats.items new.seats.items → (k : ℕ) (first now : Seat K S Known) (h : Heard) → slice_get old.seats.items k ≡ Some first → slice_get new.seats.items k ≡ Some now → slice_get hs k ≡ Some h
        → Did w first now h
    at_seat seen k first now h at_first at_now at_h = (
      λ gate gate' at_gate at_gate'.
          subst₂ (λ (a b : G). DidInRun link sink rules journal (faults a) (faults b) first now h) (gate_is crew w old gate at_old at_gate) (gate_is crew' w new gate' at_new at_gate')
          (it.seats.each k first now h at_first at_now at_h),
      subst₂ (λ (a b : Seat K S Known). HasSeenAll desk a.view b.view) (get_or_from_slice_get old.seats.items k first first at_first) (get_or_from_slice_get new.seats.items k now first at_now)
          (seen.each k first (slice_get_within old.seats.items k first at_first)),
    )

    at_seats : Each (λ first now. HasSeenAll desk first.view now.view) old.seats.items new.seats.items → EachOf (Did w) old.seats.items new.seats.items hs
    at_seats seen = record { as_many = it.seats.as_many; one_each = it.seats.one_each; each = at_seat seen }

  module _ (stations : List (List Heard)) (seats : List (Seat K S Known)) (some : 0 < length crew) (seated : AreSeated seats crew) (each : EachOf (DidAtGate link sink faults rules journal) crew crew' stations)
      (all_seen : Each (λ old new. Each (λ first now. HasSeenAll desk first.view now.view) old.seats.items new.seats.items) crew crew') where
    at_worker : (w : ℕ) → w < length crew → EachOf (Did w) (row (dealt (length crew) 0 seats) w) (row (rows_of crew') w) (row stations w)
    at_worker w inside =
        let inside' : w < length crew' = omega (arith, inside, each.as_many) in
        let old = entry crew w inside in
        let new = entry crew' w inside' in
        let hs = entry stations w (omega (arith, inside, each.one_each)) in
        let old_is : slice_index_or crew w old.0 ≡ old.0 = get_or_from_slice_get crew w old.0 old.0 old.1 in
        let new_is : slice_index_or crew' w old.0 ≡ new.0 = get_or_from_slice_get crew' w new.0 old.0 new.1 in
        let olds_are : old.0.seats.items ≡ row (dealt (length crew) 0 seats) w =
        ap (λ (c : Crewman K S G Known). c.seats.items) (sym old_is) ∙ sym (row_of crew w old.0 inside) ∙ ap (λ (rows : List (List (Seat K S Known))). row rows w) seated in
        let news_are : new.0.seats.items ≡ row (rows_of crew') w =
        ap (λ (c : Crewman K S G Known). c.seats.items) (sym new_is) ∙ sym (row_of crew' w old.0 inside') in
        let hs_are : hs.0 ≡ row stations w = sym (get_or_from_slice_get stations w hs.0 [] hs.1) in
        let seen : Each (λ first now. HasSeenAll desk first.view now.view) old.0.seats.items new.0.seats.items =
        subst₂ (λ (a b : Crewman K S G Known). Each (λ first now. HasSeenAll desk first.view now.view) a.seats.items b.seats.items) old_is new_is (all_seen.each w old.0 inside) in
        let did = at_seats w old.0 new.0 hs.0 old.1 new.1 (each.each w old.0 new.0 hs.0 old.1 new.1 hs.1) seen in
        subst (λ (xs : List (Seat K S Known)). EachOf (Did w) xs (row (rows_of crew') w) (row stations w)) olds_are
        (subst₂ (EachOf (Did w) old.0.seats.items) news_are hs_are did)

    module _ (seats' : List (Seat K S Known)) (heard : List Heard) (seated' : rows_of crew' ≡ dealt (length crew) 0 seats') (heard_is : stations ≡ dealt (length crew) 0 heard) where
      -- the gate of a worker none of whose stations it ended
      stayed : (w : ℕ) (gate gate' : G) → slice_get (gates_of crew) w ≡ Some gate → slice_get (gates_of crew') w ≡ Some gate'
          → ((n : ℕ) (h : Heard) → slice_get heard n ≡ Some h → n % length crew ≡ w → is_gate_fault h.end ≡ false) → faults gate' ≡ faults gate
      stayed w gate gate' at at' none =
          let long = length-map crew (λ (c : Crewman K S G Known). c.gate) in
          let inside : w < length crew = let within = slice_get_within (gates_of crew) w gate at in omega (arith, within, long) in
          let old = entry crew w inside in
          let new = entry crew' w (omega (arith, inside, each.as_many)) in
          let hs = entry stations w (omega (arith, inside, each.one_each)) in
          let it = each.each w old.0 new.0 hs.0 old.1 new.1 hs.1 in
          let hs_are : hs.0 ≡ row (dealt (length crew) 0 heard) w = sym (get_or_from_slice_get stations w hs.0 [] hs.1) ∙ ap (λ (rows : List (List Heard)). row rows w) heard_is in
          let all : All (λ h. is_gate_fault h.end ≡ false) hs.0 = λ k d within.
          let h : Heard = slice_index_or hs.0 k d in
          let numbered = has_number (length crew) some 0 w heard k h (subst (λ (t : List Heard). slice_get t k ≡ Some h) hs_are (slice_get-get_or hs.0 k d within)) in
          none numbered.0 h numbered.1 (from_zero numbered.0 (length crew) w numbered.2) in
          gate_stays w old.0 new.0 hs.0 old.1 new.1 it gate gate' at at' all

      ours : All (IsOneOf stations) heard
      ours n d within =
          let w : ℕ = (0 + n) % length crew in
          let h : Heard = slice_index_or heard n d in
          let place = has_place (length crew) some 0 w heard n h refl (slice_get-get_or heard n d within) in
          let inside : w < length stations = omega (arith, some, each.one_each) in
          let at : slice_get (row stations w) place.0 ≡ Some h = subst (λ (rows : List (List Heard)). slice_get (row rows w) place.0 ≡ Some h) (sym heard_is) place.1 in
          (row stations w, w, place.0, slice_get-get_or stations w [] inside, at)

      by_number : AlikeFrom (length crew) some Did 0 seats seats' heard → DidByNumber link sink faults rules journal desk crew crew' stations seats seats' heard
      by_number alike = record {
        workers = each.as_many;
        seated = seated' ∙ ap (λ (k : ℕ). dealt k 0 seats') (sym each.as_many);
        as_many = alike.as_many;
        one_each = alike.one_each;
        did = λ n first now h gate gate' at_first at_now at_h at at'.
            let e : n ≡ 0 + n = omega arith in
            (alike.each n first now h at_first at_now at_h).0 gate gate'
            (subst (λ (m : ℕ). slice_get (gates_of crew) (m % length crew) ≡ Some gate) e at)
            (subst (λ (m : ℕ). slice_get (gates_of crew') (m % length crew) ≡ Some gate') e at');
        seen = λ n first now at_first at_now.
            let h = entry heard n (let within = slice_get_within seats n first at_first in omega (arith, within, alike.one_each)) in
            (alike.each n first now h.0 at_first at_now h.1).1;
        gate_stayed = stayed;
        ours = ours;
      }

-- The law.
pub seated_did : {K S G : Type 0} (link : links.Ghosts K) (sink : sinks.Ghosts S) (faults : G → ℕ) → SeatedDidByNumber link sink faults
seated_did link sink faults rules journal desk crew crew' stations seats some seated each seen =
    let h = dealt_alike (length crew) some (Did link sink faults rules journal desk crew crew') 0 seats (rows_of crew') stations
    (length-map crew' (λ c. c.seats.items) ∙ each.as_many) each.one_each (at_worker link sink faults rules journal desk crew crew' stations seats some seated each seen) in
    (h.0, h.1, by_number link sink faults rules journal desk crew crew' stations seats some seated each seen h.0 h.1 h.2 h.3 h.4)
