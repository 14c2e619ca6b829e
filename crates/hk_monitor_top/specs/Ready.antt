-- What is ready for a run of a plan.
use Rattle.std.specs.Prelude.{◌≡◌, ℕ, ◌≤◌, List, [], length, slice_get, Some, vec_capacity}
use Rattle.std.specs.List.{All}
use Rattle.hk_spec_matching.specs.Catalogue.{Limits}
use Rattle.hk_spec_settings.specs.Settings.{Rules}
use Rattle.hk_spec_runs.specs.OperatorState.{new_state}
use Rattle.hk_spec_runs.specs.Listening.{unheard}
use Rattle.hk_outside.specs.Doors.{plan_of}
use Rattle.hk_outside.specs.declared.door.Plan.{Plan}
use Rattle.hk_spec_monitor.specs.Setup.{Setup}
use Rattle.hk_setup.specs.Plans.{setup_of_plan}
use Rattle.hk_station.specs.Hearing.{IsHearing, station_number}
use Rattle.hk_station.specs.declared.station.Station.{Station}
use Rattle.hk_operator.specs.Obeying.{IsObeying, new_stream}
use Rattle.hk_publish.specs.Known.{Known, new_known}
use Rattle.hk_publish.specs.Holding.{Holding, new_holding, shelf_of}
use Rattle.hk_seating.specs.declared.bench.Bench.{Bench}
use Rattle.hk_monitor_top.specs.declared.ready.Rows.{Rows}
use Rattle.hk_monitor_top.specs.declared.ready.Ready.{Ready}

-- the setup of a plan, its rules and its limits
abbrev pub setup_by : Plan → Setup
setup_by plan = setup_of_plan (plan_of plan)

abbrev pub rules_by : Plan → Rules
rules_by plan = (setup_by plan).rules

abbrev pub limits_by : Plan → Limits
limits_by plan = (rules_by plan).limits

-- Each station has the number of its place, and has heard nothing.
abbrev pub AreNumbered : Rules → List Station → Type 0
AreNumbered rules stations = (n : ℕ) (station : Station) → slice_get stations n ≡ Some station
    → (station_number station ≡ n) × IsHearing rules station unheard

-- An empty bench with room for so many stations, and a scratch with room for a look at so many positions.
pub record IsBench {K S V : Type 0} (stations positions : ℕ) (bench : Bench K S V) : Type 0 where
  pub empty : bench.seats.items ≡ []
  pub room : stations ≤ vec_capacity bench.seats
  pub scratch : positions ≤ bench.scratch.room

-- The desk and the readings are new ones of one start, with these limits.
pub record IsNewStart (limits : Limits) (desk : Holding) (readings : List Known) : Type 0 where
  pub desk_is : desk ≡ new_holding desk.home limits
  pub readings_are : All (λ reading. reading ≡ new_known desk.home limits) readings

module _ {K S G V : Type 0} where
  -- Rows with room for so many stations and workers, with a bench for each worker. No link, log or gate is in them yet.
  pub record HasRoom (stations workers positions : ℕ) (rows : Rows K S G V) : Type 0 where
    pub no_pair : rows.pairs.items ≡ []
    pub no_gate : rows.gates.items ≡ []
    pub no_crew : rows.crew.items ≡ []
    pub no_end : rows.ends.items ≡ []
    pub pairs : stations ≤ vec_capacity rows.pairs
    pub gates : workers ≤ vec_capacity rows.gates
    pub crew : workers ≤ vec_capacity rows.crew
    pub ends : stations ≤ vec_capacity rows.ends
    pub bench_each : length rows.benches.items ≡ workers
    pub benches : All (IsBench stations positions) rows.benches.items
    pub station_each : length rows.stations.items ≡ stations
    pub reading_each : length rows.readings.items ≡ stations

-- All that a run of this plan needs is there, and new.
pub record IsReady {K S G : Type 0} (plan : Plan) (ready : Ready K S G Known) : Type 0 where
  pub room : HasRoom plan.stations plan.workers plan.positions ready.rows
  pub numbered : AreNumbered (rules_by plan) ready.rows.stations.items
  pub start : IsNewStart (limits_by plan) ready.desk ready.rows.readings.items
  pub operator : IsObeying (rules_by plan) ready.operator (shelf_of ready.desk) new_stream new_state
