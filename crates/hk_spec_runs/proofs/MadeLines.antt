-- The line of `make` is counted in the text of a replay that tells no want of memory.
use Rattle.std.proofs.Common.{◌≡◌, ℕ, ◌+◌, ◌++◌, Bool, true, false, List, [], ◌∷◌, refl, sym, ap, ◌∙◌, arith, Option, Some, None, length, length-append, map}
use Rattle.std.specs.Prelude.{sum_by, slice_get, is_some, not, ◌&&◌, if◌then◌else◌}
use Rattle.std.specs.Option.{option_map_or}
use Rattle.std.specs.List.{enumerate_from}
use Rattle.std.proofs.lemmas.List.Sums.{sum_by-append, sum_by-cons}
use Rattle.hk_base.specs.declared.plain.WireFault.{WireFault}
use Rattle.hk_base.specs.declared.plain.Reason.{Reason}
use Rattle.hk_base.specs.declared.plain.Reason.TheVariants.{Duplicate, Short, Unknown, SongsFull, PositionsFull, VersionsFull, SongOpen, NoSongOpen, NoMemory}
use Rattle.hk_base.specs.declared.plain.What.{What}
use Rattle.hk_base.specs.declared.plain.What.TheVariants.{Refused}
use Rattle.hk_spec_matching.specs.Catalogue.{Journal}
use Rattle.hk_spec_streams.specs.Blocks.{Block}
use Rattle.hk_spec_streams.specs.Pieces.{completed, is_one_of, first_that_holds}
use Rattle.hk_spec_streams.specs.Operator.{Command, AddWords, OpenSong, Audio, Close, Withdraw, Publish, operator_met, commands}
use Rattle.hk_spec_streams.specs.Records.{Arrival, ForStation, ForOperator, arrivals, input_seen}
use Rattle.hk_spec_lines.specs.Lines.{Replied}
use Rattle.hk_spec_lines.specs.Make.{Tally, made_line, tally_of}
use Rattle.hk_spec_settings.specs.Settings.{Rules}
use Rattle.hk_spec_made.specs.Input.{make_input}
use Rattle.hk_spec_runs.specs.OperatorState.{OperatorState, UnfinishedSong, refusals, success, answer, after, closed}
use Rattle.hk_spec_runs.specs.Replay.{Listener, Scene, report, reports, heard, reply_to, obeyed, for_station, arrived, opening, scene_of, new_blocks, replay}
use Rattle.hk_spec_runs.specs.Make.{made_scene, make_line}
use Rattle.hk_spec_runs.proofs.SceneEnds.{fold_keeps}
use Rattle.hk_spec_runs.proofs.Tallies.{versions_of, versions_in, told_by, replay_counts}
use Rattle.hk_spec_runs.proofs.Unrefused.{unrefused}

-- a report tells no version
reports_told : (rules : Rules) (station : ℕ) (journal : Journal) (v : ℕ) (numbered : List (ℕ × Block)) → sum_by versions_of (map (report rules station journal v) numbered) ≡ 0
unfolding report
reports_told rules station journal v [] = refl
reports_told rules station journal v (n ∷ numbered) =
    omega (arith, sum_by-cons versions_of (report rules station journal v n) (map (report rules station journal v) numbered), reports_told rules station journal v numbered)

-- each version that was published is told
abbrev AreTold : Scene → Type 0
AreTold scene = sum_by versions_of scene.printed ≡ length scene.state.journal

module _ (rules : Rules) where
  -- a reply to a command, and one version more where it tells one
  abbrev Raises : OperatorState → Command → What → Type 0
  Raises state c what = length (after rules state c what).journal ≡ length state.journal + versions_in what

  refused_raises : (state : OperatorState) (c : Command) (reason : Reason) → Raises state c (Refused reason)
  unfolding after
  refused_raises state (AddWords id words) reason = omega arith
  refused_raises state (OpenSong id form) reason = omega arith
  refused_raises state (Audio bytes) Duplicate = omega arith
  refused_raises state (Audio bytes) Short = omega arith
  refused_raises state (Audio bytes) Unknown = omega arith
  refused_raises state (Audio bytes) SongsFull = omega arith
  refused_raises state (Audio bytes) PositionsFull = omega arith
  refused_raises state (Audio bytes) VersionsFull = omega arith
  refused_raises state (Audio bytes) SongOpen = omega arith
  refused_raises state (Audio bytes) NoSongOpen = omega arith
  refused_raises state (Audio bytes) NoMemory = omega arith
  refused_raises state Close reason = omega arith
  refused_raises state (Withdraw id) reason = omega arith
  refused_raises state Publish reason = omega arith

  closed_raises : (state : OperatorState) (song : Option UnfinishedSong) → length (closed rules state song).journal ≡ length state.journal + 0
  closed_raises state None = omega arith
  closed_raises state (Some song) = omega arith

  success_raises : (state : OperatorState) (c : Command) → Raises state c (success rules state c)
  unfolding after
  success_raises state (AddWords id words) = omega arith
  success_raises state (OpenSong id form) = omega arith
  success_raises state (Audio bytes) = omega arith
  success_raises state Close = closed_raises state state.song
  success_raises state (Withdraw id) = omega arith
  success_raises state Publish = length-append state.journal (state.staged ∷ [])

  reply_raises : (refused : List ℕ) (n : ℕ) (state : OperatorState) (c : Command) → Raises state c (reply_to rules refused n state c)
  unfolding answer
  reply_raises refused n state c = by (is_one_of refused n && not (is_some (first_that_holds (refusals rules state c)))) (first_that_holds (refusals rules state c))
    where
      by : (b : Bool) (o : Option Reason) → Raises state c (if b then Refused NoMemory else option_map_or (λ reason. Refused reason) o (success rules state c))
      by true o = refused_raises state c NoMemory
      by false None = success_raises state c
      by false (Some reason) = refused_raises state c reason

  obeyed_told : (refused : List ℕ) (scene : Scene) (c : ℕ × Command) → AreTold scene → AreTold (obeyed rules refused scene c)
  obeyed_told refused scene c told =
      let what : What = reply_to rules refused c.0 scene.state c.1 in
      omega (arith, told, sum_by-append versions_of scene.printed (Replied c.0 what ∷ []), sum_by-cons versions_of (Replied c.0 what) [], reply_raises refused c.0 scene.state c.1)

  station_told : (scene : Scene) (station byte : ℕ) (o : Option Listener) → AreTold scene → AreTold (for_station rules scene station byte o)
  station_told scene station byte None told = told
  station_told scene station byte (Some l) told =
      let now : Listener = if is_some l.end then l else heard rules (length scene.state.journal) l byte in
      omega (
        arith,
        told,
        sum_by-append versions_of scene.printed (reports rules station scene.state.journal l now),
        reports_told rules station scene.state.journal (length scene.state.journal) (new_blocks rules l now),
      )

  operator_told : (b : Bool) (o : Option WireFault) (scene : Scene) (at : WireFault → Scene) (on : Scene) → AreTold scene → ((fault : WireFault) → AreTold (at fault)) → AreTold on
      → AreTold (if b then scene else option_map_or at o on)
  operator_told true o scene at on told with_fault obeying = told
  operator_told false None scene at on told with_fault obeying = obeying
  operator_told false (Some fault) scene at on told with_fault obeying = with_fault fault

  arrived_told : (refused : List ℕ) (scene : Scene) (a : Arrival) → AreTold scene → AreTold (arrived rules refused scene a)
  arrived_told refused scene (ForStation station byte) told = station_told scene station byte (slice_get scene.listeners station) told
  arrived_told refused scene (ForOperator byte) told =
      let used : List ℕ = scene.operator_stream.used ++ byte ∷ [] in
      operator_told (is_some scene.operator_stream.end) (operator_met rules.bytes used) scene _ _ told (λ fault. told)
      (fold_keeps AreTold (obeyed rules refused) (obeyed_told refused) (record scene { operator_stream = record { used = used; end = None } })
      (enumerate_from (length (commands scene.operator_stream.used) + 1) (completed commands used)) told)

  versions_told : (input refused : List ℕ) → AreTold (scene_of rules input refused)
  unfolding scene_of
  versions_told input refused = fold_keeps AreTold (arrived rules refused) (arrived_told refused) (opening rules) (arrivals (input_seen rules.stations rules.bytes input)) refl

-- What is counted in a replay of the input, where no want of memory is told, are the numbers of the line.
pub made_line_counted : (rules : Rules) (seed : ℕ) (refused : List ℕ) (t : Tally) → t ≡ tally_of (replay rules (make_input seed rules.stations rules.setting.flips) refused) → t.refusals ≡ 0
    → make_line rules seed ≡ made_line t.blocks t.matches t.versions
unfolding make_line
made_line_counted rules seed refused t is none =
    let input : List ℕ = make_input seed rules.stations rules.setting.flips in
    let counts : t ≡ told_by (scene_of rules input refused).printed = is ∙ replay_counts rules input refused in
    let same : scene_of rules input refused ≡ made_scene rules seed = unrefused rules input refused (sym (ap (λ (t : Tally). t.refusals) counts) ∙ none) in
    let told : t ≡ told_by (made_scene rules seed).printed = counts ∙ ap (λ (s : Scene). told_by s.printed) same in
    ap (λ n. made_line (told_by (made_scene rules seed).printed).blocks (told_by (made_scene rules seed).printed).matches n) (sym (versions_told rules input []))
    ∙ ap (λ (t : Tally). made_line t.blocks t.matches t.versions) (sym told)
