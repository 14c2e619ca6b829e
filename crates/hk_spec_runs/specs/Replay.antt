-- The replay of an input on one thread: what is printed at each byte, and the summary.
use Rattle.std.specs.Prelude.{ℕ, ◌+◌, not, ◌&&◌, nat_lt, if◌then◌else◌, List, [], ◌∷◌, ◌++◌, map, length, fold, flat_map, find, slice_set, slice_get, zip, Option, Some, None, is_some, option_map, unwrap_or, replicate}
use Rattle.std.specs.Option.{option_map_or}
use Rattle.std.specs.List.{enumerate_from}
use Rattle.hk_base.specs.declared.plain.What.{What}
use Rattle.hk_base.specs.declared.plain.What.TheVariants.{Refused}
use Rattle.hk_base.specs.declared.plain.Reason.TheVariants.{NoMemory}
use Rattle.hk_base.specs.declared.plain.End.{End}
use Rattle.hk_base.specs.declared.plain.End.TheVariants as ends
use Rattle.hk_base.specs.declared.plain.OpEnd.{OpEnd}
use Rattle.hk_base.specs.declared.plain.OpEnd.TheVariants as op_ends
use Rattle.hk_spec_streams.specs.Pieces.{completed, is_one_of, first_that_holds}
use Rattle.hk_spec_streams.specs.Station.{station_met, station_wrong, fences}
use Rattle.hk_spec_streams.specs.Blocks.{Block, head_of, blocks}
use Rattle.hk_spec_streams.specs.Operator.{Command, operator_met, operator_wrong, commands}
use Rattle.hk_spec_streams.specs.Records.{Arrival, ForStation, ForOperator, arrivals, input_seen}
use Rattle.hk_spec_matching.specs.Catalogue.{Songs, Journal, version}
use Rattle.hk_spec_matching.specs.Matching.{matches}
use Rattle.hk_spec_lines.specs.Lines.{Printed, Report, Replied, printed_text, station_line, operator_line}
use Rattle.hk_spec_runs.specs.OperatorState.{OperatorState, new_state, at_end, refusals, answer, after}
use Rattle.hk_spec_settings.specs.Settings.{Rules}

-- a station so far: the bytes that it used, the version of its last look, and its end once it is over
pub record Listener : Type 0 where
  pub used : List ℕ
  pub version : ℕ
  pub end : Option End

-- the operator so far: the bytes that it used, and its end once it is over
pub record OperatorStream : Type 0 where
  pub used : List ℕ
  pub end : Option OpEnd

-- the run so far: each station, the operator, the state, and what was printed
pub record Scene : Type 0 where
  pub listeners : List Listener
  pub operator_stream : OperatorStream
  pub state : OperatorState
  pub printed : List Printed

-- the report of a station's block with its number, at a version with these songs
abbrev pub report_in : ℕ → ℕ → Songs → ℕ × Block → Printed
report_in station v songs numbered =
    Report (head_of station numbered.0 numbered.1 v) (matches numbered.1.query songs)

-- the report lines of a station's numbered blocks, each at its version, over the songs of each version
abbrev pub lines_at : ℕ → (ℕ → Songs) → List (ℕ × Block) → List ℕ → List ℕ
lines_at station songs numbered vs = flat_map (λ p. printed_text (report_in station p.1 (songs p.1) p.0)) (zip numbered vs)

-- what the fences ask for that the last of these bytes completes
abbrev pub asked_with : List ℕ → List ℕ
asked_with used = map (λ fence. fence.asked) (completed fences used)

-- the first of these versions that is above v
abbrev pub first_above : ℕ → List ℕ → Option ℕ
first_above v asked = find (λ a. nat_lt v a) asked

-- the commands that the last of these bytes completes, each with its number
abbrev pub new_commands : List ℕ → List ℕ → List (ℕ × Command)
new_commands before used = enumerate_from (length (commands before) + 1) (completed commands used)

module _ (rules : Rules) where
  -- the report of a station's block with its number, at a version of a journal
  unfoldable pub report : ℕ → Journal → ℕ → ℕ × Block → Printed
  report station journal v numbered = report_in station v (version rules.limits journal v) numbered

  -- a station's log: a line for each number in vs, in the order of the blocks
  unfoldable pub log : ℕ → List Block → List ℕ → Journal → List ℕ
  log station blocks vs journal = lines_at station (version rules.limits journal) (enumerate_from 0 blocks) vs

  -- the blocks that the last of these bytes completes
  abbrev pub blocks_with : List ℕ → List Block
  blocks_with used = completed (blocks rules.setting) used

  -- It makes a look for each block and each fence.
  abbrev pub looks_with : List ℕ → ℕ
  looks_with used = length (blocks_with used) + length (asked_with used)

  -- a station that used these bytes, the last of them with the catalogue at version v
  abbrev pub listened : ℕ → Listener → List ℕ → Listener
  listened v l used = record {
    used = used;
    version = if nat_lt 0 (looks_with used) then v else l.version;
    end = option_map (λ a. ends.FenceAhead a v) (first_above v (asked_with used));
  }

  -- a station's next byte: it meets a fault and isn't used, or it is used
  abbrev pub heard : ℕ → Listener → ℕ → Listener
  heard v l byte =
      let used = l.used ++ byte ∷ [] in
      option_map_or (λ fault. record l { end = Some (ends.Wire fault) }) (station_met rules.bytes used) (listened v l used)

  -- the blocks that a station's byte completes, each with its number: none where it isn't used
  abbrev pub new_blocks : Listener → Listener → List (ℕ × Block)
  new_blocks before now =
      if nat_lt (length before.used) (length now.used) then enumerate_from (length (blocks rules.setting before.used)) (blocks_with now.used) else []

  -- their reports, at the journal's last version
  abbrev pub reports : ℕ → Journal → Listener → Listener → List Printed
  reports station journal before now = map (report station journal (length journal)) (new_blocks before now)

  -- the answer, or want of memory where the command's number is among the refused ones and its answer is no refusal
  abbrev pub reply_to : List ℕ → ℕ → OperatorState → Command → What
  reply_to refused n state command =
      if is_one_of refused n && not (is_some (first_that_holds (refusals rules state command))) then Refused NoMemory else answer rules state command

  -- A numbered command is answered, changes the state by its answer, and the reply is printed.
  abbrev pub obeyed : List ℕ → Scene → ℕ × Command → Scene
  obeyed refused scene c =
      let reply = reply_to refused c.0 scene.state c.1 in
      record scene { state = after rules scene.state c.1 reply; printed = scene.printed ++ Replied c.0 reply ∷ [] }

  -- a byte for this station, if there is one: what it completes is reported
  abbrev pub for_station : Scene → ℕ → ℕ → Option Listener → Scene
  for_station scene station byte None = scene
  for_station scene station byte (Some l) =
      let now = if is_some l.end then l else heard (length scene.state.journal) l byte in
      record scene { listeners = slice_set scene.listeners station now; printed = scene.printed ++ reports station scene.state.journal l now }

  -- the operator's stream with these bytes used, and over or not
  abbrev pub with_operator_stream : Scene → List ℕ → Option OpEnd → Scene
  with_operator_stream scene used end = record scene { operator_stream = record { used = used; end = end } }

  -- the operator's next byte: it meets a fault and isn't used, or it is used and the commands that it completes are obeyed
  abbrev pub commanded : List ℕ → Scene → ℕ → Scene
  commanded refused scene byte =
      let before = scene.operator_stream.used in
      let used = before ++ byte ∷ [] in
      option_map_or (λ fault. with_operator_stream scene before (Some (op_ends.Wire fault))) (operator_met rules.bytes used)
      (fold (obeyed refused) (with_operator_stream scene used None) (new_commands before used))

  -- a byte for the operator
  abbrev pub for_operator : List ℕ → Scene → ℕ → Scene
  for_operator refused scene byte = if is_some scene.operator_stream.end then scene else commanded refused scene byte

  -- one byte of the input; a byte for a stream that is over is skipped
  abbrev pub arrived : List ℕ → Scene → Arrival → Scene
  arrived refused scene (ForStation station byte) = for_station scene station byte (slice_get scene.listeners station)
  arrived refused scene (ForOperator byte) = for_operator refused scene byte

  -- before the first byte
  abbrev pub opening : Scene
  opening = record {
    listeners = replicate rules.stations (record { used = []; version = 0; end = None });
    operator_stream = record { used = []; end = None };
    state = new_state;
    printed = [];
  }

  -- the run over the input's bytes up to its first fault
  unfoldable pub scene_of : List ℕ → List ℕ → Scene
  scene_of input refused = fold (arrived refused) opening (arrivals (input_seen rules.stations rules.bytes input))

  -- what is printed before the summary
  abbrev pub out : List ℕ → List ℕ → List ℕ
  out input refused = flat_map printed_text (scene_of input refused).printed

  -- how a station ends with the input
  abbrev pub end_of : Listener → End
  end_of l = unwrap_or l.end (option_map_or (λ fault. ends.Wire fault) (station_wrong rules.bytes l.used) ends.Ended)

  -- how the operator ends with it
  abbrev pub operator_end_of : OperatorStream → OpEnd
  operator_end_of operator_stream = unwrap_or operator_stream.end (option_map_or (λ fault. op_ends.Wire fault) (operator_wrong rules.bytes operator_stream.used) op_ends.Ended)

  -- a numbered station's line of the summary: how many blocks it completed, the version of its last look, and its end
  abbrev pub station_summary : ℕ × Listener → List ℕ
  station_summary p = station_line p.0 (length (blocks rules.setting p.1.used)) p.1.version (end_of p.1)

  -- the stations' lines, and then the operator's
  abbrev pub summary : Scene → List ℕ
  summary scene =
      flat_map station_summary (enumerate_from 0 scene.listeners)
      ++ operator_line (length (commands scene.operator_stream.used)) (length (at_end scene.state).journal) (operator_end_of scene.operator_stream)

  -- all that a replay prints where its input has no fault
  unfoldable pub replay : List ℕ → List ℕ → List ℕ
  replay input refused = out input refused ++ summary (scene_of input refused)
