-- What a run has played, and what a step of it writes.
use Rattle.std.specs.Prelude.{◌≡◌, ℕ, ◌≤◌, ◌<◌, ◌^◌, false, List, ◌++◌, length, flat_map, Option}
use Rattle.hk_base.specs.Devices.{Wrote, WroteFront}
use Rattle.hk_spec_streams.specs.Pieces.{is_one_of}
use Rattle.hk_spec_streams.specs.Operator.{commands}
use Rattle.hk_spec_lines.specs.Lines.{Printed, printed_text}
use Rattle.hk_spec_settings.specs.Settings.{Rules}
use Rattle.hk_spec_runs.specs.Outcome.{task_of}
use Rattle.hk_spec_runs.specs.Replay.{Scene}
use Rattle.hk_spec_runs.specs.Words.{Replay}
use Rattle.hk_records.specs.Reader.{HasRead, input_limit, stations_of}
use Rattle.hk_player.specs.Playing.{IsInForm}
use Rattle.hk_run.specs.Course.{scene_after}
use Rattle.hk_run.specs.Holding.{Holds}
use Rattle.hk_run.specs.declared.run.Run.{Run}

-- Both lists refuse the same of the first n commands.
abbrev pub Agree : ℕ → List ℕ → List ℕ → Type 0
Agree n some others = (m : ℕ) → m ≤ n → is_one_of some m ≡ is_one_of others m

-- The list of refused commands has none that hasn't come yet, and a list that says the same of those that came gives the same scene.
pub record IsSettled (rules : Rules) (refused text : List ℕ) : Type 0 where
  pub none_ahead : (m : ℕ) → length (commands (scene_after rules refused text).operator_stream.used) < m → is_one_of refused m ≡ false
  pub same : (others : List ℕ) → Agree (length (commands (scene_after rules refused text).operator_stream.used)) others refused → scene_after rules others text ≡ scene_after rules refused text

-- The run has played this text, which has no fault: it has read it, and holds its scene.
pub record HasPlayed (rules : Rules) (run : Run) (refused text : List ℕ) : Type 0 where
  pub read : HasRead run.reader text
  pub limit : input_limit run.reader ≡ rules.bytes
  pub stations : stations_of run.reader ≡ rules.stations
  pub in_form : IsInForm (task_of (Replay rules)) text
  pub most : rules.bytes < 2 ^ 63
  pub holds : Holds rules run (scene_after rules refused text)
  pub settled : IsSettled rules refused text

-- what a scene prints beyond another was written
abbrev pub AddsScene : Scene → Scene → Option (List ℕ) → Option (List ℕ) → Type 0
AddsScene before now old new = (more : List Printed) × (now.printed ≡ before.printed ++ more) × Wrote (flat_map printed_text more) old new

-- a front of it was written
abbrev pub AddsSceneFront : Scene → Scene → Option (List ℕ) → Option (List ℕ) → Type 0
AddsSceneFront before now old new = (more : List Printed) × (now.printed ≡ before.printed ++ more) × WroteFront (flat_map printed_text more) old new
