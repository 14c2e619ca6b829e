-- A crew before and after a run.
use Rattle.std.specs.Prelude.{◌≡◌, ℕ, ◌≤◌, ◌<◌, Bool, false, List, length, slice_get, Some, None}
use Rattle.std.specs.List.{All}
use Rattle.hk_base.specs.declared.sink.Sink as sinks
use Rattle.hk_base.specs.declared.source.Source as sources
use Rattle.hk_spec_matching.specs.Catalogue.{Journal}
use Rattle.hk_spec_settings.specs.Settings.{Rules}
use Rattle.hk_outside.specs.declared.link.Link as links
use Rattle.hk_spec_monitor.specs.Run.{Heard, Obeyed, Run, IsOneHistory}
use Rattle.hk_spec_monitor.specs.Causes.{is_gate_fault}
use Rattle.hk_station.specs.Hearing.{station_number, version_of, kept_end}
use Rattle.hk_loop.specs.declared.seat.Seat.{Seat}
use Rattle.hk_publish.specs.Known.{Known, new_known}
use Rattle.hk_publish.specs.Holding.{Holding}
use Rattle.hk_clerk.specs.Clerks.{HasObeyedAll}
use Rattle.hk_clerk.specs.declared.office.Office.{Office}
use Rattle.hk_monitor.specs.Rows.{EachOf, IsOneOf}
use Rattle.hk_monitor.specs.Seats.{DidInRun}
use Rattle.hk_monitor.specs.declared.crew.Crewman.{Crewman}
use Rattle.hk_monitor.specs.declared.crew.Mismatch.{Mismatch}

module _ {K S G : Type 0} where
  -- a fact of each seat of a crew
  abbrev pub EachSeat : (Seat K S Known → Type 0) → List (Crewman K S G Known) → Type 0
  EachSeat P crew = All (λ worker. All P worker.seats.items) crew

  -- A worker may begin: its seats are few and going, its readings are new ones of the desk's start, and its scratch has room for
  -- their looks.
  pub record MayBegin (desk : Holding) (worker : Crewman K S G Known) : Type 0 where
    pub few : length worker.seats.items ≤ 64
    pub going : All (λ seat. kept_end seat.station ≡ None) worker.seats.items
    pub readings : All (λ seat. seat.view ≡ new_known desk.home desk.limits) worker.seats.items
    pub room : desk.limits.positions ≤ worker.scratch.room

  -- No station's version is over so many.
  abbrev pub NoneIsOver : ℕ → List (Crewman K S G Known) → Type 0
  NoneIsOver published crew = EachSeat (λ seat. version_of seat.station ≤ published) crew

  -- The station in this seat is over so many with its version, and of all stations of which that is true it has the least number.
  pub record IsFirstOver (published : ℕ) (crew : List (Crewman K S G Known)) (m : Mismatch) : Type 0 where
    pub worker : Crewman K S G Known
    pub seat : Seat K S Known
    pub w : ℕ
    pub k : ℕ
    pub at_worker : slice_get crew w ≡ Some worker
    pub at_seat : slice_get worker.seats.items k ≡ Some seat
    pub station : m.station ≡ station_number seat.station
    pub seen : m.seen ≡ version_of seat.station
    pub desk : m.desk ≡ published
    pub over : m.desk < m.seen
    pub least : EachSeat (λ other. published < version_of other.station → m.station ≤ station_number other.station) crew

  module _ (link : links.Ghosts K) (sink : sinks.Ghosts S) (faults : G → ℕ) where
    -- What the stations of a worker did. Its gate's count of faults stayed, but where it ended one of them.
    pub record DidAtGate (rules : Rules) (journal : Journal) (old new : Crewman K S G Known) (stations : List Heard) : Type 0 where
      pub seats : EachOf (DidInRun link sink rules journal (faults old.gate) (faults new.gate)) old.seats.items new.seats.items stations
      pub gate : All (λ h. is_gate_fault h.end ≡ false) stations → faults new.gate ≡ faults old.gate

-- the run of these stations, in this order
abbrev pub run_of : List Heard → Obeyed → Journal → Run
run_of stations operator journal = record { stations = stations; operator = operator; journal = journal }

-- A run: what the stations of each worker did, and what the operator did. The desk has published what the operator's replies
-- publish. Where no station's version is over that, all looks and publishes are one legal history, in whatever order the stations
-- are named.
pub record HasRun {K S G C P : Type 0} (link : links.Ghosts K) (sink : sinks.Ghosts S) (faults : G → ℕ) (source : sources.Ghosts C) (replies : sinks.Ghosts P)
    (rules : Rules) (crew crew' : List (Crewman K S G Known)) (clerk clerk' : Office C P) (desk' : Holding) : Type 0 where
  pub stations : List (List Heard)
  pub operator : Obeyed
  pub crew_did : EachOf (DidAtGate link sink faults rules desk'.published) crew crew' stations
  pub clerk_did : HasObeyedAll source replies rules clerk clerk' desk' operator
  pub one_history : NoneIsOver (length desk'.published) crew' → (named : List Heard) → All (IsOneOf stations) named
      → IsOneHistory rules (run_of named operator desk'.published)
