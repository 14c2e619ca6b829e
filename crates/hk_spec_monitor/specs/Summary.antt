-- The summary of a run, and its status.
use Rattle.std.specs.Prelude.{◌≡◌, ℕ, ◌<◌, nat_lt, if◌then◌else◌, Bool, true, false, ◌&&◌, List, [], ◌++◌, length, flat_map, find, Option, map, is_some}
use Rattle.std.specs.Option.{option_map_or}
use Rattle.std.specs.List.{enumerate_from, list_all}
use Rattle.hk_base.specs.Devices.{Rose, Wrote}
use Rattle.hk_base.specs.declared.plain.End.{End}
use Rattle.hk_base.specs.declared.plain.End.TheVariants as ends
use Rattle.hk_base.specs.declared.plain.OpEnd.{OpEnd}
use Rattle.hk_base.specs.declared.plain.OpEnd.TheVariants as op_ends
use Rattle.hk_spec_lines.specs.Lines.{station_line, operator_line, mismatch_line}
use Rattle.hk_spec_monitor.specs.Looks.{last_version}
use Rattle.hk_spec_monitor.specs.Run.{Run, whole_replies}

-- the station of the least number whose version is over the journal, and that version
abbrev pub mismatch : Run → Option (ℕ × ℕ)
mismatch run = find (λ p. nat_lt (length run.journal) p.1) (enumerate_from 0 (map (λ h. last_version h.looks) run.stations))

abbrev pub is_ended : End → Bool
is_ended ends.Ended = true
is_ended (ends.Wire fault) = false
is_ended (ends.FenceAhead asked found) = false
is_ended ends.ReadFault = false
is_ended ends.SinkFault = false
is_ended ends.GateFault = false

abbrev pub operator_is_ended : OpEnd → Bool
operator_is_ended op_ends.Ended = true
operator_is_ended (op_ends.Wire fault) = false
operator_is_ended op_ends.ReadFault = false
operator_is_ended op_ends.SinkFault = false

-- every station and the operator ended in order
abbrev pub all_ended : Run → Bool
all_ended run = list_all (λ h. is_ended h.end) run.stations && operator_is_ended run.operator.end

-- the stations' lines, the operator's, and the mismatch where there is one
abbrev pub summary : Run → List ℕ
summary run =
    flat_map (λ p. station_line p.0 (length p.1.reported) (last_version p.1.looks) p.1.end) (enumerate_from 0 run.stations)
    ++ operator_line (length (whole_replies run.operator)) (length run.journal) run.operator.end
    ++ option_map_or (λ m. mismatch_line m.0 m.1 (length run.journal)) (mismatch run) []

-- all streams ended in order
abbrev pub ENDED : ℕ
ENDED = 0

-- some stream ended otherwise
abbrev pub IN_DISORDER : ℕ
IN_DISORDER = 3

-- the summary couldn't be written
abbrev pub WRITE_FAULT : ℕ
WRITE_FAULT = 6

-- a station saw more than was published
abbrev pub MISMATCH : ℕ
MISMATCH = 9

-- the status of a run, by whether its summary was written whole
abbrev pub status_of : Run → Bool → ℕ
status_of run whole =
    if is_some (mismatch run) then MISMATCH else if whole then (if all_ended run then ENDED else IN_DISORDER) else WRITE_FAULT

-- The run's status, and its summary as it was written: whole, or a front of it, and not all, where a write failed.
pub record Concludes (code : ℕ) (written written' : Option (List ℕ)) (count count' : ℕ) (run : Run) : Type 0 where
  pub whole : Bool
  pub status : code ≡ status_of run whole
  pub front : List ℕ
  pub missing : List ℕ
  pub text : summary run ≡ front ++ missing
  pub writes : Wrote front written written'
  pub all : whole ≡ true → (missing ≡ []) × (count' ≡ count)
  pub proper : whole ≡ false → 0 < length missing
  pub failed : whole ≡ false → Rose count count'
