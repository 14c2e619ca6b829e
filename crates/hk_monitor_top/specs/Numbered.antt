-- A run of what stands in rows, station by station.
use Rattle.std.specs.Prelude.{◌≡◌, ℕ, ◌%◌, ◌≤◌, ◌<◌, false, List, [], length, slice_get, Some, vec_capacity}
use Rattle.std.specs.List.{All}
use Rattle.hk_base.specs.declared.sink.Sink as sinks
use Rattle.hk_base.specs.declared.source.Source as sources
use Rattle.hk_spec_settings.specs.Settings.{Rules}
use Rattle.hk_outside.specs.declared.link.Link as links
use Rattle.hk_spec_monitor.specs.Run.{Heard, Obeyed, IsOneHistory}
use Rattle.hk_spec_monitor.specs.Causes.{is_gate_fault}
use Rattle.hk_station.specs.Hearing.{version_of}
use Rattle.hk_loop.specs.declared.seat.Seat.{Seat}
use Rattle.hk_publish.specs.Known.{Known}
use Rattle.hk_publish.specs.Holding.{Holding}
use Rattle.hk_clerk.specs.Clerks.{HasObeyedAll}
use Rattle.hk_clerk.specs.declared.office.Office.{Office}
use Rattle.hk_monitor.specs.Seats.{DidInRun, HasSeenAll}
use Rattle.hk_monitor.specs.Crew.{run_of}
use Rattle.hk_seating.specs.Seating.{seats_of, AreOf}
use Rattle.hk_monitor_top.specs.Ready.{IsBench}
use Rattle.hk_monitor_top.specs.declared.ready.Rows.{Rows}

module _ {K S G V : Type 0} where
  -- Rows of so many stations: each has its link and log, its machine and its view. There is a gate at least, a bench for each, and room
  -- for the crew.
  pub record AreFull (stations positions : ℕ) (rows : Rows K S G V) : Type 0 where
    pub few : stations ≤ 64
    pub pair_each : length rows.pairs.items ≡ stations
    pub station_each : length rows.stations.items ≡ stations
    pub reading_each : length rows.readings.items ≡ stations
    pub some_gate : 0 < length rows.gates.items
    pub bench_each : length rows.benches.items ≡ length rows.gates.items
    pub benches : All (IsBench stations positions) rows.benches.items
    pub no_crew : rows.crew.items ≡ []
    pub crew : length rows.gates.items ≤ vec_capacity rows.crew

module _ {K S G C P : Type 0} (link : links.Ghosts K) (sink : sinks.Ghosts S) (faults : G → ℕ) (source : sources.Ghosts C) (replies : sinks.Ghosts P) (rules : Rules) where
  -- What each station did in its seat, by its number, and what the operator did. Station n was served at gate n mod so many workers, whose
  -- count stayed, but where it ended one of its stations. Each reading has seen all that was published. Where no station's version is
  -- over that, all looks and publishes are one legal history.
  pub record RanByNumber (workers : ℕ) (gates gates' : List G) (firsts nows : List (Seat K S Known)) (clerk clerk' : Office C P) (desk' : Holding) (heard : List Heard) (operator : Obeyed) : Type 0 where
    pub as_many : length nows ≡ length firsts
    pub one_each : length heard ≡ length firsts
    pub did : (n : ℕ) (first now : Seat K S Known) (h : Heard) (gate gate' : G) → slice_get firsts n ≡ Some first → slice_get nows n ≡ Some now → slice_get heard n ≡ Some h
        → slice_get gates (n % workers) ≡ Some gate → slice_get gates' (n % workers) ≡ Some gate'
        → DidInRun link sink rules desk'.published (faults gate) (faults gate') first now h
    pub seen : (n : ℕ) (first now : Seat K S Known) → slice_get firsts n ≡ Some first → slice_get nows n ≡ Some now → HasSeenAll desk' first.view now.view
    pub gates_stay : (w : ℕ) (gate gate' : G) → slice_get gates w ≡ Some gate → slice_get gates' w ≡ Some gate'
        → ((n : ℕ) (h : Heard) → slice_get heard n ≡ Some h → n % workers ≡ w → is_gate_fault h.end ≡ false) → faults gate' ≡ faults gate
    pub clerk_did : HasObeyedAll source replies rules clerk clerk' desk' operator
    pub one_history : All (λ seat. version_of seat.station ≤ length desk'.published) nows → IsOneHistory rules (run_of heard operator desk'.published)

  -- Rows before and after such a run.
  pub record RanInRows (rows rows' : Rows K S G Known) (clerk clerk' : Office C P) (desk' : Holding) : Type 0 where
    pub nows : List (Seat K S Known)
    pub heard : List Heard
    pub operator : Obeyed
    pub parts : AreOf nows rows'.pairs.items rows'.stations.items rows'.readings.items
    pub gates : length rows'.gates.items ≡ length rows.gates.items
    pub ran : RanByNumber (length rows.gates.items) rows.gates.items rows'.gates.items (seats_of rows.pairs.items rows.stations.items rows.readings.items) nows clerk clerk' desk' heard operator
