-- What a crew did, from what each of its workers did.
use Rattle.std.proofs.Common.{◌≡◌, ◌≤◌, ◌<◌, ℕ, Bool, false, Option, Some, None, List, [], length, slice_get, slice_index_or, refl, sym, ◌∙◌, ap, subst, arith}
use Rattle.std.specs.List.{All}
use Rattle.std.proofs.lemmas.Option.{get_or_from_slice_get, slice_get-get_or, slice_get_within}
use Rattle.hk_base.specs.declared.plain.End.{End}
use Rattle.hk_base.specs.declared.sink.Sink as sinks
use Rattle.hk_base.specs.declared.source.Source as sources
use Rattle.hk_spec_matching.specs.Catalogue.{Journal, version}
use Rattle.hk_spec_settings.specs.Settings.{Rules}
use Rattle.hk_spec_runs.specs.Listening.{unheard}
use Rattle.hk_spec_runs.specs.OperatorState.{new_state}
use Rattle.hk_outside.specs.declared.link.Link as links
use Rattle.hk_spec_monitor.specs.Looks.{last_version}
use Rattle.hk_spec_monitor.specs.Run.{Heard, Obeyed, HasLines, songs_seen, IsOneHistory}
use Rattle.hk_spec_monitor.specs.Causes.{is_gate_fault}
use Rattle.hk_spec_monitor.proofs.Logs.{no_look_is_over}
use Rattle.hk_block.specs.Looker.{LookerView}
use Rattle.hk_block.specs.Room.{Room}
use Rattle.hk_block.specs.declared.looker.Looker as lookers
use Rattle.hk_station.specs.Hearing.{IsHearing, station_number, version_of, kept_end}
use Rattle.hk_loop.specs.declared.seat.Seat.{Seat}
use Rattle.hk_loop.specs.Serving.{HasServed}
use Rattle.hk_loop.specs.Rows.{Each, GateCounts}
use Rattle.hk_served.specs.Served.{ServedSinceNew}
use Rattle.hk_served.proofs.Rows.{gate_stays}
use Rattle.hk_publish.specs.Journals.{past_of_journal}
use Rattle.hk_publish.specs.Known.{Known, looker_of, new_known}
use Rattle.hk_publish.specs.Holding.{Holding, shelf_of}
use Rattle.hk_operator.specs.Obeying.{IsObeying, new_stream}
use Rattle.hk_clerk.specs.Clerks.{HasAttended}
use Rattle.hk_clerk.specs.declared.office.Office.{Office}
use Rattle.hk_monitor.specs.declared.crew.Crewman.{Crewman}
use Rattle.hk_monitor.specs.Rows.{EachOf, IsOneOf}
use Rattle.hk_monitor.specs.Seats.{DidInRun, HasSeenAll}
use Rattle.hk_monitor.specs.Crew.{EachSeat, MayBegin, NoneIsOver, DidAtGate, HasRun, run_of}
use Rattle.hk_monitor.specs.Closing.{ClosesSeat, ClosesSeats}
use Rattle.hk_monitor.proofs.Songs.{other_songs, no_past}
use Rattle.hk_monitor.proofs.Histories.{HaveLines, legal_in_any_order}
use Rattle.hk_monitor.proofs.Gathering.{entry, gather}
use Rattle.hk_monitor.proofs.Seats.{home_stays, did_in_run}

-- what is promised of a worker that has served its seats
abbrev pub HasManned : {K S G : Type 0} → links.Ghosts K → sinks.Ghosts S → lookers.Ghosts Known → (G → ℕ) → Crewman K S G Known → Crewman K S G Known → Type 0
HasManned link sink looker faults old new =
    Each (HasServed link sink looker (faults old.gate) (faults new.gate)) old.seats.items new.seats.items × GateCounts (faults old.gate) (faults new.gate) new.seats.items
    × (new.scratch.room ≡ old.scratch.room)

module _ {K S G : Type 0} (link : links.Ghosts K) (sink : sinks.Ghosts S) (looker : lookers.Ghosts Known) (tells : (r : Known) → looker.looker r ≡ looker_of r) (faults : G → ℕ) where
  -- in the end all readings have seen what was published
  pub all_seen : (desk' : Holding) (xs ys zs : List (Crewman K S G Known)) → Each (HasManned link sink looker faults) xs ys → Each (ClosesSeats desk'.published) ys zs
      → Each (λ old new. Each (λ first now. HasSeenAll desk' first.view now.view) old.seats.items new.seats.items) xs zs
  all_seen desk' xs ys zs manned closes = record {
    as_many = closes.as_many ∙ manned.as_many;
    each = λ w d inside.
        let old = slice_index_or xs w d in
        let mid = slice_index_or ys w d in
        let served = manned.each w d inside in
        let closed = closes.each w d (omega (arith, inside, manned.as_many)) in
        record {
          as_many = closed.seats.as_many ∙ served.0.as_many;
          each = λ k e there.
              let first = slice_index_or old.seats.items k e in
              let between = slice_index_or mid.seats.items k e in
              let stays = home_stays link sink looker tells (faults old.gate) (faults mid.gate) first between (served.0.each k e there) in
              let looks = (closed.seats.each k e (omega (arith, there, served.0.as_many))).looks in
              record { home = looks.home ∙ stays.1; limits = looks.limits ∙ stays.0; seen = looks.told };
        };
  }

  module _ (law : ServedSinceNew link sink looker) (rules : Rules) (journal : Journal) (desk : Holding) (limits : rules.limits ≡ desk.limits) where
    -- a seat
    seat_did : (gate gate' : ℕ) (first mid now : Seat K S Known) → first.view ≡ new_known desk.home desk.limits → IsHearing rules first.station unheard
        → HasServed link sink looker gate gate' first mid → ClosesSeat journal mid now → (h : Heard) × DidInRun link sink rules journal gate gate' first now h
    seat_did gate gate' first mid now is_new hears served closes =
        let did = law rules gate gate' first mid hears served in (
          did.0,
          did_in_run link sink looker tells rules journal gate gate' first mid now did.0 did.1 closes
              (limits ∙ sym (ap (λ (k : Known). k.limits) is_new)) (home_stays link sink looker tells gate gate' first mid served).0 (ap (λ (k : Known). k.shown) is_new),
        )

    module _ (old mid new : Crewman K S G Known) (begins : MayBegin desk old) (hears : All (λ seat. IsHearing rules seat.station unheard) old.seats.items) (manned : HasManned link sink looker faults old mid) (closes : ClosesSeats journal mid new) where
      at_seat : (k : ℕ) (first now : Seat K S Known) → slice_get old.seats.items k ≡ Some first → slice_get new.seats.items k ≡ Some now
          → (h : Heard) × DidInRun link sink rules journal (faults old.gate) (faults new.gate) first now h
      at_seat k first now at_first at_now =
          let inside : k < length old.seats.items = slice_get_within old.seats.items k first at_first in
          let first_is : slice_index_or old.seats.items k first ≡ first = get_or_from_slice_get old.seats.items k first first at_first in
          let now_is : slice_index_or new.seats.items k first ≡ now = get_or_from_slice_get new.seats.items k now first at_now in
          let between = slice_index_or mid.seats.items k first in
          let served : HasServed link sink looker (faults old.gate) (faults mid.gate) first between =
          subst (λ s. HasServed link sink looker (faults old.gate) (faults mid.gate) s between) first_is (manned.0.each k first inside) in
          let closed : ClosesSeat journal between now =
          subst (ClosesSeat journal between) now_is (closes.seats.each k first (omega (arith, inside, manned.0.as_many))) in
          let gate : faults mid.gate ≡ faults new.gate = sym (ap faults closes.gate) in
          seat_did (faults old.gate) (faults new.gate) first between now
          (subst (λ s. s.view ≡ new_known desk.home desk.limits) first_is (begins.readings k first inside))
          (subst (λ s. IsHearing rules s.station unheard) first_is (hears k first inside))
          (subst (λ n. HasServed link sink looker (faults old.gate) n first between) gate served) closed

      did : (hs : List Heard) × EachOf (DidInRun link sink rules journal (faults old.gate) (faults new.gate)) old.seats.items new.seats.items hs
      did = gather (DidInRun link sink rules journal (faults old.gate) (faults new.gate)) old.seats.items new.seats.items (closes.seats.as_many ∙ manned.0.as_many) at_seat

      -- a station that its gate ended is among them
      stays_here : (hs : List Heard) → EachOf (DidInRun link sink rules journal (faults old.gate) (faults new.gate)) old.seats.items new.seats.items hs
          → All (λ h. is_gate_fault h.end ≡ false) hs → faults new.gate ≡ faults old.gate
      stays_here hs each none =
          ap faults closes.gate ∙ gate_stays (faults old.gate) (faults mid.gate) mid.seats.items hs (each.one_each ∙ sym manned.0.as_many) (λ k d e within.
          let inside : k < length old.seats.items = omega (arith, within, manned.0.as_many) in
          let first = entry old.seats.items k inside in
          let now = entry new.seats.items k (omega (arith, inside, each.as_many)) in
          let h = entry hs k (omega (arith, inside, each.one_each)) in
          let did_it = each.each k first.0 now.0 h.0 first.1 now.1 h.1 in
          let now_is : slice_index_or new.seats.items k d ≡ now.0 = get_or_from_slice_get new.seats.items k now.0 d now.1 in
          let same : (slice_index_or new.seats.items k d).station ≡ (slice_index_or mid.seats.items k d).station = (closes.seats.each k d within).station in
          let h_is : slice_index_or hs k e ≡ h.0 = get_or_from_slice_get hs k h.0 e h.1 in
          sym (ap kept_end same) ∙ ap (λ (s : Seat K S Known). kept_end s.station) now_is ∙ did_it.end ∙ ap (λ (g : Heard). Some g.end) (sym h_is)) manned.1 none

      pub worker_did : (hs : List Heard) × DidAtGate link sink faults rules journal old new hs
      worker_did = (did.0, record { seats = did.1; gate = stays_here did.0 did.1 })

    -- all workers
    pub crew_did : (xs ys zs : List (Crewman K S G Known)) → All (MayBegin desk) xs → EachSeat (λ seat. IsHearing rules seat.station unheard) xs
        → Each (HasManned link sink looker faults) xs ys → Each (ClosesSeats journal) ys zs → (stations : List (List Heard)) × EachOf (DidAtGate link sink faults rules journal) xs zs stations
    crew_did xs ys zs begins hears manned closes = gather (DidAtGate link sink faults rules journal) xs zs (closes.as_many ∙ manned.as_many) (λ w old new at_old at_new.
        let inside : w < length xs = slice_get_within xs w old at_old in
        let old_is : slice_index_or xs w old ≡ old = get_or_from_slice_get xs w old old at_old in
        let new_is : slice_index_or zs w old ≡ new = get_or_from_slice_get zs w new old at_new in
        let mid = slice_index_or ys w old in
        worker_did old mid new
        (subst (MayBegin desk) old_is (begins w old inside))
        (subst (λ (c : Crewman K S G Known). All (λ seat. IsHearing rules seat.station unheard) c.seats.items) old_is (hears w old inside))
        (subst (λ c. HasManned link sink looker faults c mid) old_is (manned.each w old inside))
        (subst (ClosesSeats journal mid) new_is (closes.each w old (omega (arith, inside, manned.as_many)))))

    -- any station of a crew of which no version is over the journal
    module _ (xs zs : List (Crewman K S G Known)) (stations : List (List Heard)) (each : EachOf (DidAtGate link sink faults rules journal) xs zs stations) (within : NoneIsOver (length journal) zs) where
      no_past_of : (h : Heard) → IsOneOf stations h
          → ((station : ℕ) × HasLines rules (songs_seen rules journal (λ v. Some (version rules.limits journal v))) station h) × (last_version h.looks ≤ length journal)
      no_past_of h one =
          let w : ℕ = one.1 in
          let k : ℕ = one.2 in
          let inside : w < length xs = omega (arith, slice_get_within stations w one.0 one.3, each.one_each) in
          let old = entry xs w inside in
          let new = entry zs w (omega (arith, inside, each.as_many)) in
          let at_gate = each.each w old.0 new.0 one.0 old.1 new.1 one.3 in
          let seats = at_gate.seats in
          let within_seats : k < length old.0.seats.items = omega (arith, slice_get_within one.0 k h one.4, seats.one_each) in
          let first = entry old.0.seats.items k within_seats in
          let now = entry new.0.seats.items k (omega (arith, within_seats, seats.as_many)) in
          let it = seats.each k first.0 now.0 h first.1 now.1 one.4 in
          let new_is : slice_index_or zs w new.0 ≡ new.0 = get_or_from_slice_get zs w new.0 new.0 new.1 in
          let now_is : slice_index_or new.0.seats.items k now.0 ≡ now.0 = get_or_from_slice_get new.0.seats.items k now.0 now.0 now.1 in
          let all : All (λ seat. version_of seat.station ≤ length journal) new.0.seats.items =
          subst (λ (c : Crewman K S G Known). All (λ seat. version_of seat.station ≤ length journal) c.seats.items) new_is (within w new.0 (slice_get_within zs w new.0 new.1)) in
          let version_low : version_of now.0.station ≤ length journal =
          subst (λ (s : Seat K S Known). version_of s.station ≤ length journal) now_is (all k now.0 (slice_get_within new.0.seats.items k now.0 now.1)) in
          let low : last_version h.looks ≤ length journal = omega (arith, version_low, it.version) in (
            (
              station_number first.0.station,
              other_songs rules (songs_seen rules journal (past_of_journal rules.limits now.0.view.seen)) (songs_seen rules journal (λ v. Some (version rules.limits journal v))) (station_number first.0.station) h
                  (λ v at_most. no_past rules journal (past_of_journal rules.limits now.0.view.seen) (λ u. Some (version rules.limits journal u)) v (omega (arith, at_most, low))) it.lines,
            ),
            low,
          )

      -- named in any order they make one legal history
      pub one_history : (operator : Obeyed) (named : List Heard) → All (IsOneOf stations) named → IsOneHistory rules (run_of named operator journal)
      one_history operator named ours =
          let ours_at : (n : ℕ) (h : Heard) → slice_get named n ≡ Some h → IsOneOf stations h = λ n h at. subst (IsOneOf stations) (get_or_from_slice_get named n h h at) (ours n h (slice_get_within named n h at)) in
          record {
            legal = legal_in_any_order rules journal operator named (λ n h at. (no_past_of h (ours_at n h at)).0);
            within = λ n d inside. λ k e there.
                let h = slice_index_or named n d in
                let found = no_past_of h (ours n d inside) in
                let low : slice_index_or h.looks k e ≤ last_version h.looks =
                no_look_is_over h.looks k (slice_index_or h.looks k e) found.0.1.never_fall (slice_get-get_or h.looks k e there) in
                omega (arith, low, found.1);
          }

-- What a run of a crew is, from what its workers and its clerk are promised to have done, and the closing looks.
pub ran_by : {K S G C P : Type 0} {link : links.Ghosts K} {sink : sinks.Ghosts S} {looker : lookers.Ghosts Known} {source : sources.Ghosts C} {replies : sinks.Ghosts P} {faults : G → ℕ}
    → ServedSinceNew link sink looker → ((r : Known) → looker.looker r ≡ looker_of r) → (xs ys zs : List (Crewman K S G Known)) (clerk clerk' : Office C P) (desk desk' : Holding)
    → All (MayBegin desk) xs → Each (HasManned link sink looker faults) xs ys → HasAttended source replies clerk desk clerk' desk' → Each (ClosesSeats desk'.published) ys zs
    → (rules : Rules) → EachSeat (λ seat. IsHearing rules seat.station unheard) xs → IsObeying rules clerk.operator (shelf_of desk) new_stream new_state
    → HasRun link sink faults source replies rules xs zs clerk clerk' desk'
ran_by {link = link} {sink = sink} {looker = looker} {faults = faults} law tells xs ys zs clerk clerk' desk desk' begins manned attended closes rules hears obeys =
    let journal : Journal = desk'.published in
    let limits : rules.limits ≡ desk.limits = sym obeys.shelf.limits in
    let crew = crew_did link sink looker tells faults law rules journal desk limits xs ys zs begins hears manned closes in
    let office = attended.obeyed rules obeys in
    record {
      stations = crew.0;
      operator = office.0;
      crew_did = crew.1;
      clerk_did = office.1;
      one_history = λ within. one_history link sink looker tells faults law rules journal desk limits xs zs crew.0 crew.1 within office.0;
    }

-- the same of what the readings have seen
pub seen_by : {K S G : Type 0} {link : links.Ghosts K} {sink : sinks.Ghosts S} {looker : lookers.Ghosts Known} (faults : G → ℕ) (xs ys zs : List (Crewman K S G Known)) (desk' : Holding)
    → Each (HasManned link sink looker faults) xs ys → ((r : Known) → looker.looker r ≡ looker_of r) → Each (ClosesSeats desk'.published) ys zs
    → Each (λ old new. Each (λ first now. HasSeenAll desk' first.view now.view) old.seats.items new.seats.items) xs zs
seen_by {link = link} {sink = sink} {looker = looker} faults xs ys zs desk' manned tells closes = all_seen link sink looker tells faults desk' xs ys zs manned closes

-- and of their scratches
pub rooms_by : {K S G : Type 0} {link : links.Ghosts K} {sink : sinks.Ghosts S} {looker : lookers.Ghosts Known} (faults : G → ℕ) (published : Journal) (xs ys zs : List (Crewman K S G Known))
    → Each (HasManned link sink looker faults) xs ys → Each (ClosesSeats published) ys zs → Each (λ old new. new.scratch.room ≡ old.scratch.room) xs zs
rooms_by faults published xs ys zs manned closes = record {
  as_many = closes.as_many ∙ manned.as_many;
  each = λ w d inside. ap (λ (scratch : Room). scratch.room) (closes.each w d (omega (arith, inside, manned.as_many))).scratch ∙ (manned.each w d inside).2;
}
