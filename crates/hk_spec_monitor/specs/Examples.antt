-- Two stations, an operator and a run for the worked examples: blocks of two prints, and songs of two words.
use Rattle.std.specs.Prelude.{ℕ, List, [], ◌∷◌, ◌++◌, None, codes}
use Rattle.hk_base.specs.declared.plain.What.TheVariants.{Done, Published}
use Rattle.hk_base.specs.declared.plain.End.TheVariants as ends
use Rattle.hk_base.specs.declared.plain.OpEnd.TheVariants as op_ends
use Rattle.hk_spec_streams.specs.Examples.{prints_hello, print_packet}
use Rattle.hk_spec_settings.specs.Settings.{Rules}
use Rattle.hk_spec_runs.specs.Examples.{SMALL, OPERATOR_BYTES, STATION_BYTES, SONGS_7, FOUND_5}
use Rattle.hk_outside.specs.Doors.{Doorway, Pair}
use Rattle.hk_outside.specs.declared.door.Call.{Call}
use Rattle.hk_outside.specs.declared.door.Held.TheVariants.{Inside}
use Rattle.hk_outside.specs.declared.door.Start.{Start}
use Rattle.hk_spec_monitor.specs.Run.{Heard, Obeyed, Run}
use Rattle.hk_spec_monitor.specs.Setup.{Setup}

-- two stations
abbrev pub TWO : Rules
TWO = record SMALL { stations = 2 }

-- a station that looked before the publish, and one that looked after it
abbrev pub EARLY : Heard
EARLY = record { taken = STATION_BYTES; looks = 0 ∷ []; reported = record { version = 0; list = [] } ∷ []; torn = []; end = ends.Ended }

abbrev pub LATE : Heard
LATE = record { taken = STATION_BYTES; looks = 1 ∷ []; reported = record { version = 1; list = FOUND_5 } ∷ []; torn = []; end = ends.Ended }

-- one whose log failed in its first line
abbrev pub TORN : Heard
TORN = record { taken = STATION_BYTES; looks = 1 ∷ []; reported = []; torn = codes "S 0 B"; end = ends.SinkFault }

-- a fence that asks for a version, and a station that asks for one before its prints
abbrev pub fence_packet : ℕ → List ℕ
fence_packet asked = 2 ∷ 0 ∷ 4 ∷ 0 ∷ 0 ∷ 0 ∷ asked ∷ []

abbrev pub FENCED_BYTES : List ℕ
FENCED_BYTES = prints_hello ++ fence_packet 1 ++ print_packet 5 0 ++ print_packet 6 0

-- It was met, and it was ahead.
abbrev pub MET : Heard
MET = record LATE { taken = FENCED_BYTES; looks = 1 ∷ 1 ∷ [] }

abbrev pub AHEAD : Heard
AHEAD = record { taken = FENCED_BYTES; looks = 0 ∷ []; reported = []; torn = []; end = ends.FenceAhead 1 0 }

-- the operator, and one whose replies failed in the second line
abbrev pub OBEYED : Obeyed
OBEYED = record { taken = OPERATOR_BYTES; replies = Done ∷ Published 1 ∷ []; torn = []; end = op_ends.Ended }

abbrev pub REPLY_TORN : Obeyed
REPLY_TORN = record OBEYED { torn = codes "O 2 pub"; end = op_ends.SinkFault }

abbrev pub RUN : Run
RUN = record { stations = LATE ∷ EARLY ∷ []; operator = OBEYED; journal = SONGS_7 ∷ [] }

-- what two stations and one worker are set to
abbrev pub SETUP : Setup
SETUP = record { rules = TWO; workers = 1; address = codes "127.0.0.1"; station_port = 7701; operator_port = 7702; logs = codes "station" }

-- a door with this start and these calls, of whose objects nothing is told
abbrev pub UNTOLD : Pair
UNTOLD = record { held = Inside; gives = record { bytes = None; faults = 0 }; takes = record { bytes = None; faults = 0 } }

abbrev pub door_with : Start → List Call → Doorway
door_with start calls = record { start = start; plan = None; faults = 0; calls = calls; stations = λ n. UNTOLD; operator = UNTOLD; gates = λ w. record { held = Inside; faults = 0 } }
