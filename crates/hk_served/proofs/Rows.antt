-- All seats of a worker.
use Rattle.std.proofs.Common.{◌≡◌, ◌<◌, inl, inr, ℕ, zero, suc, true, false, Some, List, [], ◌∷◌, length, slice_index_or, refl, sym, ◌∙◌, ap, arith, All}
use Rattle.hk_account.proofs.Course.{end_is}
use Rattle.hk_base.specs.declared.plain.End.TheVariants as ends
use Rattle.hk_base.specs.declared.sink.Sink as sinks
use Rattle.hk_outside.specs.declared.link.Link as links
use Rattle.hk_spec_settings.specs.Settings.{Rules}
use Rattle.hk_spec_runs.specs.Listening.{unheard}
use Rattle.hk_spec_monitor.specs.Run.{Heard}
use Rattle.hk_spec_monitor.specs.Causes.{is_gate_fault}
use Rattle.hk_block.specs.declared.looker.Looker as lookers
use Rattle.hk_station.specs.Hearing.{IsHearing, kept_end}
use Rattle.hk_loop.specs.declared.seat.Seat.{Seat}
use Rattle.hk_loop.specs.Serving.{HasServed}
use Rattle.hk_loop.specs.Rows.{GateCounts}
use Rattle.hk_served.specs.Served.{DidInSeat, AllServedSinceNew}
use Rattle.hk_served.proofs.Seats.{served_since_new}

-- some item of a list that has one at this place
an_item : {A : Type 0} (xs : List A) (i : ℕ) → i < length xs → A
an_item [] i inside = absurd (omega (arith, inside))
an_item (x ∷ xs) i inside = x

-- The gate's count rose only where it ended some station, so where these are the ends and none is by the gate it stayed.
pub gate_stays : {K S V : Type 0} (gate gate' : ℕ) (nows : List (Seat K S V)) (heard : List Heard) → length heard ≡ length nows
    → ((i : ℕ) (d : Seat K S V) (e : Heard) → i < length nows → kept_end (slice_index_or nows i d).station ≡ Some (slice_index_or heard i e).end)
    → GateCounts gate gate' nows → All (λ h. is_gate_fault h.end ≡ false) heard → gate' ≡ gate
gate_stays gate gate' nows heard one_each ends_are (inl same) none = same
gate_stays {K = K} {S = S} {V = V} gate gate' nows heard one_each ends_are (inr (rose, i, inside, ended)) none =
    let d : Seat K S V = an_item nows i inside in
    let e : Heard = an_item heard i (omega (arith, inside, one_each)) in
    let is : ends.GateFault ≡ (slice_index_or heard i e).end = end_is ends.GateFault ((slice_index_or heard i e).end) (sym (ended d) ∙ ends_are i d e inside) in
    absurd (let no : true ≡ false = ap is_gate_fault is ∙ none i e (omega (arith, inside, one_each)) in cc)

module _ {K S V : Type 0} (link : links.Ghosts K) (sink : sinks.Ghosts S) (looker : lookers.Ghosts V) (rules : Rules) (gate gate' : ℕ) where
  -- these did so, each at its place
  abbrev EachDid : List (Seat K S V) → List (Seat K S V) → List Heard → Type 0
  EachDid firsts nows heard = (i : ℕ) (d : Seat K S V) (e : Heard) → i < length firsts
      → DidInSeat link sink looker rules gate gate' (slice_index_or firsts i d) (slice_index_or nows i d) (slice_index_or heard i e)

  with_first : (x y : Seat K S V) (xs ys : List (Seat K S V)) (h : Heard) (hs : List Heard) → DidInSeat link sink looker rules gate gate' x y h → EachDid xs ys hs → EachDid (x ∷ xs) (y ∷ ys) (h ∷ hs)
  with_first x y xs ys h hs did rest zero d e inside = did
  with_first x y xs ys h hs did rest (suc i) d e inside = rest i d e (omega (arith, inside))

  each_did : (firsts nows : List (Seat K S V)) → All (λ seat. IsHearing rules seat.station unheard) firsts → length nows ≡ length firsts
      → ((i : ℕ) (d : Seat K S V) → i < length firsts → HasServed link sink looker gate gate' (slice_index_or firsts i d) (slice_index_or nows i d))
      → (heard : List Heard) × (length heard ≡ length firsts) × EachDid firsts nows heard
  each_did [] nows new same served = ([], refl, λ i d e inside. absurd (omega (arith, inside)))
  each_did (x ∷ xs) [] new same served = absurd (omega (arith, same))
  each_did (x ∷ xs) (y ∷ ys) new same served =
      let first = served_since_new link sink looker rules gate gate' x y (new 0 x (omega arith)) (served 0 x (omega arith)) in
      let rest = each_did xs ys (λ i d inside. new (suc i) d (omega (arith, inside))) (omega (arith, same)) (λ i d inside. served (suc i) d (omega (arith, inside))) in
      (first.0 ∷ rest.0, ap suc rest.1, with_first x y xs ys first.0 rest.0 first.1 rest.2)

module _ {K S V : Type 0} (link : links.Ghosts K) (sink : sinks.Ghosts S) (looker : lookers.Ghosts V) where
  pub all_served_since_new : AllServedSinceNew link sink looker
  all_served_since_new rules gate gate' firsts nows new served counts =
      let found = each_did link sink looker rules gate gate' firsts nows new served.as_many served.each in (
        found.0,
        record {
          as_many = served.as_many;
          one_each = found.1;
          seats = found.2;
          gate_stayed = gate_stays gate gate' nows found.0 (found.1 ∙ sym served.as_many)
              (λ i d e inside. (found.2 i d e (omega (arith, inside, served.as_many))).end) counts;
        },
      )
