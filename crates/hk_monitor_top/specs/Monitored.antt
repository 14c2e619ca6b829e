-- A run of the monitor at its door.
use Rattle.std.specs.Prelude.{◌≡◌, List, slice_get, Some, None}
use Rattle.std.specs.Option.{IfSome}
use Rattle.hk_outside.specs.Doors.{Doorway}
use Rattle.hk_spec_monitor.specs.Run.{Run, EachStation, HasLines, HasReplies, IsOneHistory, songs_seen}
use Rattle.hk_spec_monitor.specs.Fences.{HasMetFences}
use Rattle.hk_spec_monitor.specs.Causes.{HasCauses}
use Rattle.hk_spec_monitor.specs.Devices.{planned, IsInOrder, WasUsed, IsAtDoor, EndsInOrder}
use Rattle.hk_spec_monitor.specs.Setup.{Setup}
use Rattle.hk_spec_monitor.specs.Summary.{mismatch}
use Rattle.hk_publish.specs.Journals.{past_of_journal}
use Rattle.hk_publish.specs.Known.{Known}
use Rattle.hk_publish.specs.Holding.{Holding}
use Rattle.hk_monitor_top.specs.Kept.{KeepsRun}

-- The door was started with the setup's plan, where it tells one, and asked in order for all, or up to the first call that it refused.
pub record WasAskedFor (setup : Setup) (door : Doorway) : Type 0 where
  pub plan : IfSome door.plan (λ plan. plan ≡ planned setup)
  pub order : IsInOrder setup door

-- A run: the door was used as the setup asks for. What was read of its objects and written to them is the run's bytes and texts. Each
-- station has a line for each block of what it used, with exactly the matches in the songs of a version: the journal's, and where a
-- station saw versions over the journal's, those that its reading saw. The operator's replies fit the commands, and the journal is
-- what they publish. Each fence was met, or ended its station. Where no station is ahead of the journal, all looks and publishes are one
-- legal history. Every end has its cause, and the desk and the readings are kept.
pub record HasMonitored (setup : Setup) (old new : Doorway) (desk : Holding) (readings : List Known) (run : Run) : Type 0 where
  pub used : WasUsed setup old new
  pub at_door : IsAtDoor setup.rules old new run
  pub lines : EachStation run (λ n h. (reading : Known) → slice_get readings n ≡ Some reading
      → HasLines setup.rules (songs_seen setup.rules run.journal (past_of_journal setup.rules.limits reading.seen)) n h)
  pub replies : HasReplies setup.rules run.journal run.operator
  pub fences : EachStation run (λ n h. HasMetFences setup.rules h)
  pub one_history : mismatch run ≡ None → IsOneHistory setup.rules run
  pub causes : HasCauses setup.rules setup.workers old new run
  pub in_order : EndsInOrder setup old new run
  pub kept : KeepsRun setup.rules run desk readings
