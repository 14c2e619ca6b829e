-- A run over what a door has handed out, when all is back.
use Rattle.std.proofs.Common.{◌≡◌, ◌∙◌, ◌+◌, ◌%◌, ◌≤◌, ◌<◌, ℕ, true, List, [], ◌∷◌, ◌++◌, length, map, Some, inl, inr, refl, sym, ap, subst, subst₂, arith}
use Rattle.std.specs.Prelude.{slice_get, is_some}
use Rattle.std.specs.List.{All, enumerate_from}
use Rattle.std.specs.Option.{option_map}
use Rattle.std.proofs.Math.ListN.{length-map}
use Rattle.std.proofs.lemmas.Bool.Decides.{leb_tells}
use mathlib.Core.List.{IsPrefix}
use Rattle.std.proofs.lemmas.Option.{slice_get-get_or, slice_get-map, slice_get_within}
use Rattle.hk_base.specs.Devices.{Took, Wrote, IsNothing}
use Rattle.hk_base.specs.declared.sink.Sink as sinks
use Rattle.hk_base.specs.declared.source.Source as sources
use Rattle.hk_spec_monitor.proofs.Legal.{some_of}
use Rattle.hk_spec_monitor.specs.Looks.{last_version}
use Rattle.hk_spec_monitor.specs.Run.{Heard, Run, HasLines, answers_text, log_text, songs_seen}
use Rattle.hk_spec_monitor.specs.Causes.{HasCauses}
use Rattle.hk_spec_monitor.specs.Devices.{HasAll, WasUsed, IsAtDoor}
use Rattle.hk_outside.specs.Doors.{Doorway, Pair, Told, HeldGate}
use Rattle.hk_outside.specs.declared.door.Plan.{Plan}
use Rattle.hk_outside.specs.declared.door.Held.TheVariants.{Outside}
use Rattle.hk_outside.specs.declared.link.Link as links
use Rattle.hk_setup.specs.Plans.{PlanFits}
use Rattle.hk_spec_settings.specs.Settings.{Rules}
use Rattle.hk_spec_runs.specs.Listening.{unheard}
use Rattle.hk_station.specs.Hearing.{IsHearing, station_number, kept_end, version_of}
use Rattle.hk_station.specs.declared.station.Station.{Station}
use Rattle.hk_loop.specs.declared.seat.Seat.{Seat}
use Rattle.hk_publish.specs.Journals.{past_of_journal}
use Rattle.hk_publish.specs.Known.{Known, new_known}
use Rattle.hk_publish.specs.Holding.{Holding}
use Rattle.hk_clerk.specs.declared.office.Office.{Office}
use Rattle.hk_clerk.specs.Clerks.{pair_of}
use Rattle.hk_monitor.specs.Crew.{run_of}
use Rattle.hk_monitor.specs.Seats.{DidInRun, HasSeenAll, devices_of}
use Rattle.hk_monitor.proofs.Gathering.{entry}
use Rattle.hk_opening.specs.Handing.{StationsAreBack, GatesAreBack, SameDoor}
use Rattle.hk_seating.specs.Seating.{seats_of, AreOf}
use Rattle.hk_seating.proofs.Facts.{at_place, parts_of, length_seats}
use Rattle.hk_summary.specs.declared.ends.OperatorEnd.{OperatorEnd}
use Rattle.hk_summary.specs.declared.ends.StationEnd.{StationEnd}
use Rattle.hk_summary.specs.Ends.{told}
use Rattle.hk_monitor_top.specs.Kept.{KeepsRun}
use Rattle.hk_monitor_top.specs.Monitored.{HasMonitored}
use Rattle.hk_monitor_top.specs.Ready.{setup_by, rules_by, limits_by, AreNumbered, IsNewStart}
use Rattle.hk_monitor_top.specs.Numbered.{AreFull, RanInRows}
use Rattle.hk_monitor_top.specs.Opened.{IsOpened, OperatorIsBack}
use Rattle.hk_monitor_top.specs.Ends.{TellEnds}
use Rattle.hk_monitor_top.specs.declared.ready.Rows.{Rows}
use Rattle.hk_monitor_top.proofs.Carrying.{cause_carries, stayed_carries, operator_cause_carries, operator_stayed_carries}
use Rattle.hk_monitor_top.proofs.Concluding.{ends_are, none_ahead}
use Rattle.hk_monitor_top.proofs.InOrder.{ends_in_order}

-- What stands at a place of a list stands there of what it shows.
shown_at : {A B : Type 0} (f : A → B) (xs : List A) (ys : List B) (n : ℕ) (x : A) → ys ≡ map f xs → slice_get xs n ≡ Some x → slice_get ys n ≡ Some (f x)
shown_at f xs ys n x is at_x = ap (λ l. slice_get l n) is ∙ slice_get-map f xs n ∙ ap (λ o. option_map f o) at_x

module _ {K S G C P : Type 0} (link : links.Ghosts K) (sink : sinks.Ghosts S) (faults : G → ℕ) (source : sources.Ghosts C) (replies : sinks.Ghosts P)
    (plan : Plan) (fits : PlanFits plan) (rows rows' : Rows K S G Known) (full : AreFull plan.stations plan.positions rows) (worker_each : length rows.gates.items ≡ plan.workers)
    (clerk clerk' : Office C P) (desk' : Holding) (ran : RanInRows link sink faults source replies (rules_by plan) rows rows' clerk clerk' desk') where
  abbrev firsts : List (Seat K S Known)
  firsts = seats_of rows.pairs.items rows.stations.items rows.readings.items

  stations_many : length rows.stations.items ≡ length rows.pairs.items
  stations_many = full.station_each ∙ sym full.pair_each

  views_many : length rows.readings.items ≡ length rows.pairs.items
  views_many = full.reading_each ∙ sym full.pair_each

  firsts_many : length firsts ≡ plan.stations
  firsts_many = length_seats rows.pairs.items rows.stations.items rows.readings.items stations_many views_many ∙ full.pair_each

  nows_many : length ran.nows ≡ plan.stations
  nows_many = ran.ran.as_many ∙ firsts_many

  pub heard_many : length ran.heard ≡ plan.stations
  heard_many = ran.ran.one_each ∙ firsts_many

  pub pairs_many : length rows'.pairs.items ≡ plan.stations
  pairs_many = ap length ran.parts.pairs_are ∙ length-map ran.nows (λ seat. (seat.link, seat.log)) ∙ nows_many

  pub stations_many' : length rows'.stations.items ≡ plan.stations
  stations_many' = ap length ran.parts.stations_are ∙ length-map ran.nows (λ seat. seat.station) ∙ nows_many

  pub readings_many : length rows'.readings.items ≡ plan.stations
  readings_many = ap length ran.parts.views_are ∙ length-map ran.nows (λ seat. seat.view) ∙ nows_many

  pub gates_many : length rows'.gates.items ≡ plan.workers
  gates_many = ran.gates ∙ worker_each

  parts : AreOf firsts rows.pairs.items rows.stations.items rows.readings.items
  parts = parts_of rows.pairs.items rows.stations.items rows.readings.items stations_many views_many

  -- what station n was and is, and what it did at its gate
  record Of (n : ℕ) (h : Heard) : Type 0 where
    pub first : Seat K S Known
    pub now : Seat K S Known
    pub gate : G
    pub gate' : G
    pub at_first : slice_get firsts n ≡ Some first
    pub at_now : slice_get ran.nows n ≡ Some now
    pub at_gate : slice_get rows.gates.items (n % plan.workers) ≡ Some gate
    pub at_gate' : slice_get rows'.gates.items (n % plan.workers) ≡ Some gate'
    pub did : DidInRun link sink (rules_by plan) desk'.published (faults gate) (faults gate') first now h
    pub seen : HasSeenAll desk' first.view now.view

  of : (n : ℕ) (h : Heard) → slice_get ran.heard n ≡ Some h → Of n h
  of n h at_h =
      let inside : n < plan.stations = omega (arith, slice_get_within ran.heard n h at_h, heard_many) in
      let first = entry firsts n (omega (arith, inside, firsts_many)) in
      let now = entry ran.nows n (omega (arith, inside, nows_many)) in
      let some = fits.some_worker in
      let worker : n % plan.workers < plan.workers = omega (arith, some) in
      let gate = entry rows.gates.items (n % plan.workers) (omega (arith, worker, worker_each)) in
      let gate' = entry rows'.gates.items (n % plan.workers) (omega (arith, worker, gates_many)) in
      record {
        first = first.0;
        now = now.0;
        gate = gate.0;
        gate' = gate'.0;
        at_first = first.1;
        at_now = now.1;
        at_gate = gate.1;
        at_gate' = gate'.1;
        did = ran.ran.did n first.0 now.0 h gate.0 gate'.0 first.1 now.1 at_h
            (subst (λ (w : ℕ). slice_get rows.gates.items (n % w) ≡ Some gate.0) (sym worker_each) gate.1)
            (subst (λ (w : ℕ). slice_get rows'.gates.items (n % w) ≡ Some gate'.0) (sym worker_each) gate'.1);
        seen = ran.ran.seen n first.0 now.0 first.1 now.1;
      }

  -- all stations are over
  pub all_over : All (λ station. is_some (kept_end station) ≡ true) rows'.stations.items
  all_over k d inside =
      let h = entry ran.heard k (omega (arith, inside, stations_many', heard_many)) in
      let it = of k h.0 h.1 in
      let here = shown_at (λ seat. seat.station) ran.nows rows'.stations.items k it.now ran.parts.stations_are it.at_now in
      let same = some_of _ _ (sym here ∙ slice_get-get_or rows'.stations.items k d inside) in
      subst (λ (s : Station). is_some (kept_end s) ≡ true) same (ap is_some it.did.end)

  pub clerk_over : is_some clerk'.end ≡ true
  clerk_over = ap is_some ran.ran.clerk_did.end

  module _ (numbered : AreNumbered (rules_by plan) rows.stations.items) where
    number_of : (n : ℕ) (h : Heard) (it : Of n h) → station_number it.first.station ≡ n
    number_of n h it = (numbered n it.first.station (shown_at (λ seat. seat.station) firsts rows.stations.items n it.first parts.stations_are it.at_first)).0

    -- what is told of the ends is so of the run
    pub ends_told : (ends : List StationEnd) → TellEnds rows'.stations.items ends → ends ≡ map told (enumerate_from 0 ran.heard)
    ends_told ends tells = ends_are 0 ends ran.heard (tells.one_each ∙ stations_many' ∙ sym heard_many) (λ n end h at_end at_h.
        let it = of n h at_h in
        let tell = tells.each n it.now.station end (shown_at (λ seat. seat.station) ran.nows rows'.stations.items n it.now ran.parts.stations_are it.at_now) at_end in
        let end_is : end.end ≡ h.end = some_of end.end h.end (sym tell.end ∙ it.did.end) in
        let number : end.number ≡ n = tell.number ∙ it.did.number ∙ number_of n h it in
        let blocks : end.blocks ≡ length h.reported = tell.blocks ∙ it.did.count in
        let version : end.version ≡ last_version h.looks = tell.version ∙ it.did.version in
        let from : 0 + n ≡ n = omega arith in
        let same : end ≡ told (n, h) = λ i. record { number = number i; blocks = blocks i; version = version i; end = end_is i } in
        same ∙ ap (λ (k : ℕ). told (k, h)) (sym from))

    module _ (handed : C × P) (calls_are : clerk.calls ≡ handed.0) (replies_are : clerk.replies ≡ handed.1) (before old new : Doorway)
        (opened : IsOpened link sink faults source replies plan rows handed before old) (stations_back : StationsAreBack link sink rows'.pairs.items old new)
        (gates_back : GatesAreBack faults rows'.gates.items old new) (operator_back : OperatorIsBack source replies clerk' new) (same : SameDoor old new)
        (desk : Holding) (start : IsNewStart (limits_by plan) desk rows.readings.items) (home : desk'.home ≡ desk.home) (limits : desk'.limits ≡ desk.limits) where
      abbrev run : Run
      run = run_of ran.heard ran.operator desk'.published

      gives : (n : ℕ) (h : Heard) (it : Of n h) → (devices_of link sink it.first).gives ≡ (before.stations n).gives
      gives n h it = opened.stations.link_told n (it.first.link, it.first.log) (shown_at (λ seat. (seat.link, seat.log)) firsts rows.pairs.items n it.first parts.pairs_are it.at_first)

      takes : (n : ℕ) (h : Heard) (it : Of n h) → (devices_of link sink it.first).takes ≡ (before.stations n).takes
      takes n h it = opened.stations.log_told n (it.first.link, it.first.log) (shown_at (λ seat. (seat.link, seat.log)) firsts rows.pairs.items n it.first parts.pairs_are it.at_first)

      gives' : (n : ℕ) (h : Heard) (it : Of n h) → (devices_of link sink it.now).gives ≡ (new.stations n).gives
      gives' n h it = sym (stations_back.link_told n (it.now.link, it.now.log) (shown_at (λ seat. (seat.link, seat.log)) ran.nows rows'.pairs.items n it.now ran.parts.pairs_are it.at_now))

      takes' : (n : ℕ) (h : Heard) (it : Of n h) → (devices_of link sink it.now).takes ≡ (new.stations n).takes
      takes' n h it = sym (stations_back.log_told n (it.now.link, it.now.log) (shown_at (λ seat. (seat.link, seat.log)) ran.nows rows'.pairs.items n it.now ran.parts.pairs_are it.at_now))

      asks : (pair_of source replies Outside clerk).gives ≡ before.operator.gives
      asks = ap (λ (x : C). record { bytes = source.left x; faults = source.faults x }) calls_are ∙ opened.operator.calls_told

      answers : (pair_of source replies Outside clerk).takes ≡ before.operator.takes
      answers = ap (λ (x : P). record { bytes = replies.written x; faults = replies.faults x }) replies_are ∙ opened.operator.replies_told

      has_causes : HasCauses (rules_by plan) plan.workers before new run
      has_causes = record {
        stations = λ n h at_h. let it = of n h at_h in
            cause_carries (rules_by plan) (devices_of link sink it.first) (devices_of link sink it.now) (before.stations n) (new.stations n)
            (gives n h it) (gives' n h it) (takes n h it) (takes' n h it)
            (record { held = Outside; faults = faults it.gate }) (record { held = Outside; faults = faults it.gate' }) (before.gates (n % plan.workers)) (new.gates (n % plan.workers)) h h.end
            (opened.gates.told (n % plan.workers) it.gate it.at_gate) (sym (gates_back.told (n % plan.workers) it.gate' it.at_gate')) it.did.cause;
        stayed = λ n h at_h. let it = of n h at_h in
            stayed_carries (rules_by plan) (devices_of link sink it.first) (devices_of link sink it.now) (before.stations n) (new.stations n)
            (gives n h it) (gives' n h it) (takes n h it) (takes' n h it) h.end it.did.stayed;
        gates = λ w inside none.
            let gate = entry rows.gates.items w (omega (arith, inside, worker_each)) in
            let gate' = entry rows'.gates.items w (omega (arith, inside, gates_many)) in
            gates_back.told w gate'.0 gate'.1
            ∙ ran.ran.gates_stay w gate.0 gate'.0 gate.1 gate'.1 (λ n h at_h is. none n h at_h (subst (λ (k : ℕ). n % k ≡ w) worker_each is))
            ∙ opened.gates.told w gate.0 gate.1;
        operator = operator_cause_carries (rules_by plan) (pair_of source replies Outside clerk) (pair_of source replies Outside clerk') before.operator new.operator
            asks (sym operator_back.calls_told) answers (sym operator_back.replies_told) ran.operator ran.operator.end (ran.ran.clerk_did.cause Outside Outside);
        operator_stayed = operator_stayed_carries (rules_by plan) (pair_of source replies Outside clerk) (pair_of source replies Outside clerk') before.operator new.operator
            asks (sym operator_back.calls_told) answers (sym operator_back.replies_told) ran.operator.end (ran.ran.clerk_did.stayed Outside Outside);
      }

      is_at_door : IsAtDoor (rules_by plan) before new run
      is_at_door = record {
        count = heard_many;
        links = λ n h at_h. let it = of n h at_h in subst₂ (λ (t t' : Told). Took h.taken t.bytes t'.bytes) (gives n h it) (gives' n h it) it.did.taken;
        fresh_logs = λ n h at_h. let it = of n h at_h in
            subst (λ (t : Told). IsNothing t.bytes) (takes n h it)
            (opened.stations.log_empty n (it.first.link, it.first.log) (shown_at (λ seat. (seat.link, seat.log)) firsts rows.pairs.items n it.first parts.pairs_are it.at_first));
        logs = λ n h at_h. let it = of n h at_h in
            subst (λ (k : ℕ). Wrote (log_text (rules_by plan) k h) (before.stations n).takes.bytes (new.stations n).takes.bytes) (number_of n h it)
            (subst₂ (λ (t t' : Told). Wrote (log_text (rules_by plan) (station_number it.first.station) h) t.bytes t'.bytes) (takes n h it) (takes' n h it) it.did.log);
        calls = subst₂ (λ (t t' : Told). Took ran.operator.taken t.bytes t'.bytes) asks (sym operator_back.calls_told) ran.ran.clerk_did.taken;
        fresh_replies = subst (λ (t : Told). IsNothing t.bytes) opened.operator.replies_told opened.operator.replies_empty;
        replies = subst₂ (λ (t t' : Told). Wrote (answers_text (rules_by plan) ran.operator) t.bytes t'.bytes) answers (sym operator_back.replies_told) ran.ran.clerk_did.written;
      }

      was_used : WasUsed (setup_by plan) before new
      was_used = record {
        start = same.start ∙ opened.start;
        plan = same.plan ∙ opened.plan_is;
        calls = same.calls ∙ opened.calls;
        stations = λ n inside. let pair = entry rows'.pairs.items n (omega (arith, inside, pairs_many)) in stations_back.back n pair.0 pair.1;
        operator = operator_back.back;
        gates = λ w inside. let gate = entry rows'.gates.items w (omega (arith, inside, gates_many)) in gates_back.back w gate.0 gate.1;
        other_stations = λ n more. stations_back.others n (omega (arith, more, pairs_many)) ∙ opened.stations.others n (omega (arith, more, full.pair_each));
        other_gates = λ w more. gates_back.others w (omega (arith, more, gates_many)) ∙ opened.gates.others w (omega (arith, more, worker_each));
      }

      reading_of : (n : ℕ) (h : Heard) (it : Of n h) (reading : Known) → slice_get rows'.readings.items n ≡ Some reading → it.now.view ≡ reading
      reading_of n h it reading at_r = some_of it.now.view reading
          (sym (shown_at (λ seat. seat.view) ran.nows rows'.readings.items n it.now ran.parts.views_are it.at_now) ∙ at_r)

      each_reading : (P : Known → Type 0) → ((n : ℕ) (h : Heard) (it : Of n h) → P it.now.view) → All P rows'.readings.items
      each_reading P of_each k d inside =
          let h = entry ran.heard k (omega (arith, inside, readings_many, heard_many)) in
          let it = of k h.0 h.1 in
          subst P (reading_of k h.0 it _ (slice_get-get_or rows'.readings.items k d inside)) (of_each k h.0 it)

      first_reading : (n : ℕ) (h : Heard) (it : Of n h) → it.first.view ≡ new_known desk.home (limits_by plan)
      first_reading n h it = at_place (λ reading. reading ≡ new_known desk.home (limits_by plan)) rows.readings.items n it.first.view
          (shown_at (λ seat. seat.view) firsts rows.readings.items n it.first parts.views_are it.at_first) start.readings_are

      keeps : KeepsRun (rules_by plan) run desk' rows'.readings.items
      keeps = record {
        desk_limits = limits ∙ ap (λ (d : Holding). d.limits) start.desk_is;
        journal = refl;
        staged = ran.ran.clerk_did.staged;
        one_start = each_reading (λ reading. reading.home ≡ desk'.home) (λ n h it. it.seen.home ∙ ap (λ (r : Known). r.home) (first_reading n h it) ∙ sym home);
        limits_are = each_reading (λ reading. reading.limits ≡ limits_by plan) (λ n h it. it.seen.limits ∙ ap (λ (r : Known). r.limits) (first_reading n h it));
        one_each = readings_many ∙ sym heard_many;
        seen = each_reading (λ reading. IsPrefix desk'.published reading.seen) (λ n h it. it.seen.seen);
        looks = λ n h at_h reading at_r. let it = of n h at_h in
            subst (λ (r : Known). r.shown ≡ h.looks ++ length r.seen ∷ []) (reading_of n h it reading at_r) it.did.shown;
        within = λ n h at_h reading at_r. let it = of n h at_h in
            subst (λ (r : Known). last_version h.looks ≤ length r.seen) (reading_of n h it reading at_r) it.did.within;
      }

      pub has_monitored : HasMonitored (setup_by plan) before new desk' rows'.readings.items run
      has_monitored = record {
        used = was_used;
        at_door = is_at_door;
        lines = λ n h at_h reading at_r. let it = of n h at_h in
            subst₂ (λ (k : ℕ) (r : Known). HasLines (rules_by plan) (songs_seen (rules_by plan) desk'.published (past_of_journal (limits_by plan) r.seen)) k h)
            (number_of n h it) (reading_of n h it reading at_r) it.did.lines;
        replies = ran.ran.clerk_did.replies;
        fences = λ n h at_h. (of n h at_h).did.fences;
        one_history = λ none. ran.ran.one_history (λ k d inside.
            let h = entry ran.heard k (omega (arith, inside, nows_many, heard_many)) in
            let it = of k h.0 h.1 in
            let least = none_ahead (length desk'.published) 0 ran.heard none k h.0 h.1 in
            subst (λ (seat : Seat K S Known). version_of seat.station ≤ length desk'.published) (some_of it.now _ (sym it.at_now ∙ slice_get-get_or ran.nows k d inside))
            (omega (arith, it.did.version, least)));
        causes = has_causes;
        in_order = ends_in_order (setup_by plan) before new run fits.some_worker is_at_door has_causes;
        kept = keeps;
      }

      pub has_all : HasAll before → HasAll new
      has_all all = record {
        stations = λ n. elim (leb_tells plan.stations n) [
          | inl more ↦ λ out. all.stations n (ap (λ (p : Pair). p.held) (sym (was_used.other_stations n more.1)) ∙ out)
          | inr less ↦ λ out. let back = was_used.stations n less.1 in cc (back, out)
        ];
        operator = λ out. let back = was_used.operator in cc (back, out);
        gates = λ w. elim (leb_tells plan.workers w) [
          | inl more ↦ λ out. all.gates w (ap (λ (g : HeldGate). g.held) (sym (was_used.other_gates w more.1)) ∙ out)
          | inr less ↦ λ out. let back = was_used.gates w less.1 in cc (back, out)
        ];
      }

pub all_hearing : (rules : Rules) (stations : List Station) → AreNumbered rules stations → All (λ station. IsHearing rules station unheard) stations
all_hearing rules stations numbered k d inside = (numbered k _ (slice_get-get_or stations k d inside)).1

pub same_operator : (told it : OperatorEnd) → told.commands ≡ it.commands → told.published ≡ it.published → told.end ≡ it.end → told ≡ it
same_operator told it commands published end = λ i. record { commands = commands i; published = published i; end = end i }
