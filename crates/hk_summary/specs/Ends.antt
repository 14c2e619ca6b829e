-- What is told of the ends of a run, and what is written of it.
use Rattle.std.specs.Prelude.{◌≡◌, ℕ, nat_lt, if◌then◌else◌, Bool, ◌&&◌, List, [], ◌++◌, length, map, flat_map, find, Option, is_some}
use Rattle.std.specs.List.{enumerate_from, list_all}
use Rattle.std.specs.Option.{option_map_or}
use Rattle.hk_spec_lines.specs.Lines.{station_line, operator_line, mismatch_line}
use Rattle.hk_spec_monitor.specs.Looks.{last_version}
use Rattle.hk_spec_monitor.specs.Run.{Heard, Run, whole_replies}
use Rattle.hk_spec_monitor.specs.Summary.{is_ended, operator_is_ended, ENDED, IN_DISORDER, WRITE_FAULT, MISMATCH}
use Rattle.hk_summary.specs.declared.ends.StationEnd.{StationEnd}
use Rattle.hk_summary.specs.declared.ends.OperatorEnd.{OperatorEnd}

-- what is told of a station of a run, by its number
abbrev pub told : ℕ × Heard → StationEnd
told p = record { number = p.0; blocks = length p.1.reported; version = last_version p.1.looks; end = p.1.end }

-- and of its operator
abbrev pub told_operator : Run → OperatorEnd
told_operator run = record { commands = length (whole_replies run.operator); published = length run.journal; end = run.operator.end }

-- The ends are those of this run.
pub record Tells (stations : List StationEnd) (operator : OperatorEnd) (run : Run) : Type 0 where
  pub stations_are : stations ≡ map told (enumerate_from 0 run.stations)
  pub operator_is : operator ≡ told_operator run

abbrev pub end_line : StationEnd → List ℕ
end_line station = station_line station.number station.blocks station.version station.end

abbrev pub station_lines : List StationEnd → List ℕ
station_lines stations = flat_map end_line stations

-- the first station whose version is over so many
abbrev pub ahead_of : ℕ → List StationEnd → Option StationEnd
ahead_of published stations = find (λ station. nat_lt published station.version) stations

-- the operator's line, and that of a station that is ahead
abbrev pub rest_text : Option StationEnd → OperatorEnd → List ℕ
rest_text ahead operator =
    operator_line operator.commands operator.published operator.end
    ++ option_map_or (λ station. mismatch_line station.number station.version operator.published) ahead []

abbrev pub summary_text : List StationEnd → OperatorEnd → List ℕ
summary_text stations operator = station_lines stations ++ rest_text (ahead_of operator.published stations) operator

abbrev pub are_ended : List StationEnd → OperatorEnd → Bool
are_ended stations operator = list_all (λ station. is_ended station.end) stations && operator_is_ended operator.end

-- the status, by whether the summary was written whole
abbrev pub code_of : List StationEnd → OperatorEnd → Bool → ℕ
code_of stations operator whole =
    if is_some (ahead_of operator.published stations) then MISMATCH
    else if whole then (if are_ended stations operator then ENDED else IN_DISORDER) else WRITE_FAULT
