-- What is kept of the shared catalogue after a run.
use Rattle.std.specs.Prelude.{◌≡◌, ◌≤◌, List, [], ◌∷◌, ◌++◌, length, slice_get, Some}
use Rattle.std.specs.List.{All}
use mathlib.Core.List.{IsPrefix}
use Rattle.hk_spec_settings.specs.Settings.{Rules}
use Rattle.hk_spec_monitor.specs.Looks.{last_version}
use Rattle.hk_spec_monitor.specs.Run.{Run, EachStation}
use Rattle.hk_publish.specs.Known.{Known}
use Rattle.hk_publish.specs.Holding.{Holding}
use Rattle.hk_clerk.specs.Course.{staged_by}

-- The desk and the readings of one start with these limits. The desk has published the run's journal, and what the operator left
-- staged is staged still. Each reading has seen all of the journal. Reading n made the looks of station n in their order, then one
-- closing look that none of them is over, and no other.
pub record KeepsRun (rules : Rules) (run : Run) (desk : Holding) (readings : List Known) : Type 0 where
  pub desk_limits : desk.limits ≡ rules.limits
  pub journal : desk.published ≡ run.journal
  pub staged : desk.staged ≡ staged_by rules run.operator
  pub one_start : All (λ reading. reading.home ≡ desk.home) readings
  pub limits_are : All (λ reading. reading.limits ≡ rules.limits) readings
  pub one_each : length readings ≡ length run.stations
  pub seen : All (λ reading. IsPrefix run.journal reading.seen) readings
  pub looks : EachStation run (λ n h. (reading : Known) → slice_get readings n ≡ Some reading → reading.shown ≡ h.looks ++ length reading.seen ∷ [])
  pub within : EachStation run (λ n h. (reading : Known) → slice_get readings n ≡ Some reading → last_version h.looks ≤ length reading.seen)
