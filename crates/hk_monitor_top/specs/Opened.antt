-- A door that is open for a run, and what it has back after it.
use Rattle.std.specs.Prelude.{◌≡◌, ◌≤◌, ℕ, [], length, Some, vec_capacity}
use Rattle.hk_base.specs.declared.sink.Sink as sinks
use Rattle.hk_base.specs.declared.source.Source as sources
use Rattle.hk_spec_runs.specs.OperatorState.{new_state}
use Rattle.hk_outside.specs.Doors.{Doorway, plan_of}
use Rattle.hk_outside.specs.declared.door.Plan.{Plan}
use Rattle.hk_outside.specs.declared.door.Held.TheVariants.{Back}
use Rattle.hk_outside.specs.declared.door.Start.TheVariants.{Started}
use Rattle.hk_outside.specs.declared.link.Link as links
use Rattle.hk_spec_monitor.specs.Devices.{granted}
use Rattle.hk_operator.specs.Obeying.{IsObeying, new_stream}
use Rattle.hk_publish.specs.Known.{Known}
use Rattle.hk_publish.specs.Holding.{shelf_of}
use Rattle.hk_clerk.specs.declared.office.Office.{Office}
use Rattle.hk_opening.specs.Handing.{StationsAreOut, GatesAreOut, OperatorIsOut, opening_of}
use Rattle.hk_monitor_top.specs.Numbered.{AreFull}
use Rattle.hk_monitor_top.specs.Ready.{rules_by, limits_by, AreNumbered, IsNewStart}
use Rattle.hk_monitor_top.specs.declared.ready.Rows.{Rows}
use Rattle.hk_monitor_top.specs.declared.ready.Ready.{Ready}

-- All that a run of this plan needs is there: what the door has handed out, and the rest, which is new.
pub record IsManned {K S G : Type 0} (plan : Plan) (ready : Ready K S G Known) : Type 0 where
  pub full : AreFull plan.stations plan.positions ready.rows
  pub worker_each : length ready.rows.gates.items ≡ plan.workers
  pub no_end : ready.rows.ends.items ≡ []
  pub ends_room : plan.stations ≤ vec_capacity ready.rows.ends
  pub numbered : AreNumbered (rules_by plan) ready.rows.stations.items
  pub start : IsNewStart (limits_by plan) ready.desk ready.rows.readings.items
  pub operator : IsObeying (rules_by plan) ready.operator (shelf_of ready.desk) new_stream new_state

module _ {K S G C P : Type 0} (link : links.Ghosts K) (sink : sinks.Ghosts S) (faults : G → ℕ) (source : sources.Ghosts C) (replies : sinks.Ghosts P) where
  -- The door was started with this plan, and all that it has is out, as it was inside before.
  pub record IsOpened (plan : Plan) (rows : Rows K S G Known) (handed : C × P) (before now : Doorway) : Type 0 where
    pub start : now.start ≡ Started
    pub plan_is : now.plan ≡ Some (plan_of plan)
    pub calls : now.calls ≡ granted (opening_of (plan_of plan))
    pub stations : StationsAreOut link sink rows.pairs.items before now
    pub gates : GatesAreOut faults rows.gates.items before now
    pub operator : OperatorIsOut source replies handed before now

-- The clerk's calls and replies are back, as they are.
pub record OperatorIsBack {C P : Type 0} (source : sources.Ghosts C) (sink : sinks.Ghosts P) (clerk : Office C P) (now : Doorway) : Type 0 where
  pub back : now.operator.held ≡ Back
  pub calls_told : now.operator.gives ≡ record { bytes = source.left clerk.calls; faults = source.faults clerk.calls }
  pub replies_told : now.operator.takes ≡ record { bytes = sink.written clerk.replies; faults = sink.faults clerk.replies }
