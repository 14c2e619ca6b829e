-- A run of a crew, by the numbers of its stations.
use Rattle.std.proofs.Common.{◌≡◌, ◌∙◌, ◌≤◌, ◌<◌, ℕ, List, map, length, sym, ap, subst, arith}
use Rattle.std.specs.Prelude.{None}
use Rattle.std.specs.List.{All}
use Rattle.std.proofs.Math.ListN.{length-map}
use Rattle.hk_base.specs.declared.sink.Sink as sinks
use Rattle.hk_base.specs.declared.source.Source as sources
use Rattle.hk_spec_settings.specs.Settings.{Rules}
use Rattle.hk_outside.specs.declared.link.Link as links
use Rattle.hk_spec_monitor.specs.Run.{Heard, Obeyed}
use Rattle.hk_block.specs.Room.{Room}
use Rattle.hk_station.specs.Hearing.{kept_end, version_of}
use Rattle.hk_loop.specs.declared.seat.Seat.{Seat}
use Rattle.hk_loop.specs.Rows.{Each}
use Rattle.hk_publish.specs.Known.{Known, new_known}
use Rattle.hk_publish.specs.Holding.{Holding}
use Rattle.hk_clerk.specs.declared.office.Office.{Office}
use Rattle.hk_monitor.specs.declared.crew.Crewman.{Crewman}
use Rattle.hk_monitor.specs.Crew.{MayBegin, HasRun}
use Rattle.hk_monitor.specs.Seats.{HasSeenAll}
use Rattle.hk_seating.specs.Seating.{seats_of, gates_of, AreSeated, AreOf}
use Rattle.hk_seating.proofs.Facts.{each_seat, few_seats, all_stations, all_views, length_seats}
use Rattle.hk_seating.proofs.Lists.{same_all}
use Rattle.hk_seating.proofs.Numbers.{seated_did}
use Rattle.hk_monitor_top.specs.Ready.{IsNewStart}
use Rattle.hk_monitor_top.specs.Numbered.{AreFull, RanByNumber, RanInRows}
use Rattle.hk_monitor_top.specs.declared.ready.Rows.{Rows}

module _ {K S G : Type 0} (rows : Rows K S G Known) (crew : List (Crewman K S G Known)) (gates : gates_of crew ≡ rows.gates.items) where
  pub as_many_workers : length crew ≡ length rows.gates.items
  as_many_workers = sym (length-map crew (λ worker. worker.gate)) ∙ ap length gates

  pub some_worker : 0 < length rows.gates.items → 0 < length crew
  some_worker some = omega (arith, some, as_many_workers)

  -- the crew of full rows may begin
  pub may_begin : (stations : ℕ) (desk : Holding) → AreFull stations desk.limits.positions rows → All (λ station. kept_end station ≡ None) rows.stations.items
      → IsNewStart desk.limits desk rows.readings.items → AreSeated (seats_of rows.pairs.items rows.stations.items rows.readings.items) crew
      → map (λ worker. worker.scratch) crew ≡ map (λ bench. bench.scratch) rows.benches.items → All (MayBegin desk) crew
  may_begin stations desk full going start seated scratches k d inside =
      let seats : List (Seat K S Known) = seats_of rows.pairs.items rows.stations.items rows.readings.items in
      let some : 0 < length crew = some_worker full.some_gate in
      let stations_many : length rows.stations.items ≡ length rows.pairs.items = full.station_each ∙ sym full.pair_each in
      let views_many : length rows.readings.items ≡ length rows.pairs.items = full.reading_each ∙ sym full.pair_each in
      let many : length seats ≡ length rows.pairs.items = length_seats rows.pairs.items rows.stations.items rows.readings.items stations_many views_many in
      record {
        few = omega (arith, few_seats crew seats some seated k d inside, many, full.pair_each, full.few);
        going = each_seat crew seats some seated (λ seat. kept_end seat.station ≡ None)
            (all_stations (λ station. kept_end station ≡ None) rows.pairs.items rows.stations.items rows.readings.items going) k d inside;
        readings = each_seat crew seats some seated (λ seat. seat.view ≡ new_known desk.home desk.limits)
            (all_views (λ view. view ≡ new_known desk.home desk.limits) rows.pairs.items rows.stations.items rows.readings.items start.readings_are) k d inside;
        room = same_all (λ worker. worker.scratch) (λ bench. bench.scratch) (λ (room : Room). desk.limits.positions ≤ room.room) crew rows.benches.items scratches (λ i b at. (full.benches i b at).scratch) k d inside;
      }

  module _ {C P : Type 0} (link : links.Ghosts K) (sink : sinks.Ghosts S) (faults : G → ℕ) (source : sources.Ghosts C) (replies : sinks.Ghosts P) where
    -- what the stations of a crew did, with what is still in its seats
    pub ran_by_number : (rules : Rules) (stations positions : ℕ) (crew' : List (Crewman K S G Known)) (clerk clerk' : Office C P) (desk' : Holding)
        → AreFull stations positions rows → AreSeated (seats_of rows.pairs.items rows.stations.items rows.readings.items) crew
        → HasRun link sink faults source replies rules crew crew' clerk clerk' desk'
        → Each (λ old new. Each (λ first now. HasSeenAll desk' first.view now.view) old.seats.items new.seats.items) crew crew'
        → (nows : List (Seat K S Known)) × (heard : List Heard) × (ran : HasRun link sink faults source replies rules crew crew' clerk clerk' desk')
        × AreSeated nows crew' × (length nows ≡ stations) × (length crew' ≡ length crew)
        × RanByNumber link sink faults source replies rules (length rows.gates.items) rows.gates.items (gates_of crew')
        (seats_of rows.pairs.items rows.stations.items rows.readings.items) nows clerk clerk' desk' heard ran.operator
    ran_by_number rules stations positions crew' clerk clerk' desk' full seated ran seen =
        let seats : List (Seat K S Known) = seats_of rows.pairs.items rows.stations.items rows.readings.items in
        let some : 0 < length crew = some_worker full.some_gate in
        let stations_many : length rows.stations.items ≡ length rows.pairs.items = full.station_each ∙ sym full.pair_each in
        let views_many : length rows.readings.items ≡ length rows.pairs.items = full.reading_each ∙ sym full.pair_each in
        let many : length seats ≡ length rows.pairs.items = length_seats rows.pairs.items rows.stations.items rows.readings.items stations_many views_many in
        let h = seated_did link sink faults rules desk'.published desk' crew crew' ran.stations seats some seated ran.crew_did seen in
        let did = h.2 in
        let some' : 0 < length crew' = omega (arith, some, did.workers) in (
          h.0,
          h.1,
          ran,
          did.seated,
          did.as_many ∙ many ∙ full.pair_each,
          did.workers,
          subst (λ (n : ℕ). RanByNumber link sink faults source replies rules n rows.gates.items (gates_of crew') seats h.0 clerk clerk' desk' h.1 ran.operator) as_many_workers
              (subst (λ (gs : List G). RanByNumber link sink faults source replies rules (length crew) gs (gates_of crew') seats h.0 clerk clerk' desk' h.1 ran.operator) gates
              (record {
                as_many = did.as_many;
                one_each = did.one_each;
                did = did.did;
                seen = did.seen;
                gates_stay = did.gate_stayed;
                clerk_did = ran.clerk_did;
                one_history = λ none_over. ran.one_history (each_seat crew' h.0 some' did.seated (λ seat. version_of seat.station ≤ length desk'.published) none_over) h.1 did.ours;
              })),
        )

    -- the rows into which all come back
    pub ran_in_rows : (rules : Rules) (rows' : Rows K S G Known) (nows : List (Seat K S Known)) (heard : List Heard) (crew' : List (Crewman K S G Known))
        (clerk clerk' : Office C P) (desk' : Holding) (operator : Obeyed)
        → AreOf nows rows'.pairs.items rows'.stations.items rows'.readings.items → rows'.gates.items ≡ gates_of crew' → length crew' ≡ length crew
        → RanByNumber link sink faults source replies rules (length rows.gates.items) rows.gates.items (gates_of crew')
        (seats_of rows.pairs.items rows.stations.items rows.readings.items) nows clerk clerk' desk' heard operator
        → RanInRows link sink faults source replies rules rows rows' clerk clerk' desk'
    ran_in_rows rules rows' nows heard crew' clerk clerk' desk' operator parts gates' workers ran = record {
      nows = nows;
      heard = heard;
      operator = operator;
      parts = parts;
      gates = ap length gates' ∙ length-map crew' (λ worker. worker.gate) ∙ workers ∙ as_many_workers;
      ran = subst (λ (gs : List G). RanByNumber link sink faults source replies rules (length rows.gates.items) rows.gates.items gs
          (seats_of rows.pairs.items rows.stations.items rows.readings.items) nows clerk clerk' desk' heard operator) (sym gates') ran;
    }
