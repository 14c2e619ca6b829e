-- The one line of `make`.
use Rattle.std.specs.Prelude.{ℕ, List, [], length, sum_by}
use Rattle.hk_spec_made.specs.Input.{make_input}
use Rattle.hk_spec_lines.specs.Lines.{Printed, Report, Replied}
use Rattle.hk_spec_lines.specs.Make.{made_line}
use Rattle.hk_spec_settings.specs.Settings.{Rules}
use Rattle.hk_spec_runs.specs.Replay.{Scene, scene_of}

-- how many reports there are, and how many items they list
abbrev pub reports_of : Printed → ℕ
reports_of (Report head list) = 1
reports_of (Replied n what) = 0

abbrev pub items_of : Printed → ℕ
items_of (Report head list) = length list
items_of (Replied n what) = 0

-- the replay of this input with no command refused for memory
abbrev pub made_scene : Rules → ℕ → Scene
made_scene rules seed = scene_of rules (make_input seed rules.stations rules.setting.flips) []

-- its blocks, the items that their reports list, and the versions that it published
unfoldable pub make_line : Rules → ℕ → List ℕ
make_line rules seed =
    let scene = made_scene rules seed in
    made_line (sum_by reports_of scene.printed) (sum_by items_of scene.printed) (length scene.state.journal)
