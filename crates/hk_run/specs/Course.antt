-- What a replay makes of an input, byte after byte.
use Rattle.std.specs.Prelude.{ℕ, Bool, true, false, ◌&&◌, List, fold, map, flat_map, length, is_none}
use Rattle.std.specs.List.{enumerate_from, list_all}
use Rattle.hk_base.specs.declared.plain.End.{End}
use Rattle.hk_base.specs.declared.plain.End.TheVariants as ends
use Rattle.hk_base.specs.declared.plain.OpEnd.{OpEnd}
use Rattle.hk_base.specs.declared.plain.OpEnd.TheVariants as op_ends
use Rattle.hk_spec_streams.specs.Blocks.{blocks}
use Rattle.hk_spec_streams.specs.Station.{station_wrong}
use Rattle.hk_spec_streams.specs.Records.{ForStation, arrivals}
use Rattle.hk_spec_lines.specs.Lines.{printed_text, station_line}
use Rattle.hk_spec_settings.specs.Settings.{Rules}
use Rattle.hk_spec_runs.specs.Replay.{Listener, Scene, opening, arrived, end_of}
use Rattle.hk_player.specs.declared.player.Taken.{Taken}
use Rattle.hk_player.specs.declared.player.Taken.TheVariants as takens
use Rattle.hk_station.specs.declared.station.Progress.{Progress}
use Rattle.hk_station.specs.declared.station.Progress.TheVariants.{Going, Over}

-- the scene after all bytes of an input without a fault
abbrev pub scene_after : Rules → List ℕ → List ℕ → Scene
scene_after rules refused text = fold (arrived rules refused) (opening rules) (arrivals text)

-- a scene with these bytes of a station's stream more
abbrev pub heard_by : Rules → List ℕ → Scene → ℕ → List ℕ → Scene
heard_by rules refused scene number bytes = fold (arrived rules refused) scene (map (ForStation number) bytes)

-- what is printed for these bytes
abbrev pub printed_for : Rules → List ℕ → List ℕ → List ℕ
printed_for rules refused text = flat_map printed_text (scene_after rules refused text).printed

-- the summary lines of listeners, numbered from a number on
abbrev pub listener_line : Rules → ℕ × Listener → List ℕ
listener_line rules p = station_line p.0 (length (blocks rules.setting p.1.used)) p.1.version (end_of rules p.1)

abbrev pub lines_from : Rules → ℕ → List Listener → List ℕ
lines_from rules n listeners = flat_map (listener_line rules) (enumerate_from n listeners)

abbrev pub station_lines : Rules → List Listener → List ℕ
station_lines rules listeners = lines_from rules 0 listeners

abbrev pub is_ended : End → Bool
is_ended ends.Ended = true
is_ended (ends.Wire fault) = false
is_ended (ends.FenceAhead asked found) = false
is_ended ends.ReadFault = false
is_ended ends.SinkFault = false
is_ended ends.GateFault = false

abbrev pub operator_ended : OpEnd → Bool
operator_ended op_ends.Ended = true
operator_ended (op_ends.Wire fault) = false
operator_ended op_ends.ReadFault = false
operator_ended op_ends.SinkFault = false

-- a listener that isn't over, and whose bytes may end where they end
abbrev pub is_in_order : Rules → Listener → Bool
is_in_order rules l = is_none l.end && is_none (station_wrong rules.bytes l.used)

-- all of them are such
abbrev pub all_ended : Rules → List Listener → Bool
all_ended rules listeners = list_all (λ l. is_none l.end) listeners && list_all (λ l. is_none (station_wrong rules.bytes l.used)) listeners

-- what a station's progress is to the run
abbrev pub taken_of : Progress → Taken
taken_of (Over ends.SinkFault) = takens.SinkFault
taken_of (Over ends.Ended) = takens.Going
taken_of (Over (ends.Wire fault)) = takens.Going
taken_of (Over (ends.FenceAhead asked found)) = takens.Going
taken_of (Over ends.ReadFault) = takens.Going
taken_of (Over ends.GateFault) = takens.Going
taken_of Going = takens.Going
