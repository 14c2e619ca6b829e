-- A small run for the worked examples: blocks of two prints, and songs of two words.
use Rattle.std.specs.Prelude.{ℕ, List, [], ◌∷◌, ◌++◌, codes, Some}
use Rattle.hk_spec_streams.specs.Examples as streams
use Rattle.hk_base.specs.declared.plain.Form.{Form}
use Rattle.hk_base.specs.declared.plain.What.{What}
use Rattle.hk_spec_streams.specs.Operator.{Command, AddWords, OpenSong, Audio, Close, Withdraw, Publish}
use Rattle.hk_base.specs.declared.plain.Match.{Match}
use Rattle.hk_spec_streams.specs.Blocks.{Block}
use Rattle.hk_spec_matching.specs.Catalogue.{Edit, Add}
use Rattle.hk_spec_matching.specs.Catalogue as edits
use Rattle.hk_spec_runs.specs.OperatorState.{OperatorState, new_state, answer, after}
use Rattle.hk_spec_settings.specs.Settings.{Rules}

abbrev pub SMALL : Rules
SMALL = record { setting = streams.small; errors = 1; limits = record { songs = 2; positions = 6; versions = 2 }; stations = 1; bytes = 1000 }

-- the operator adds song 7 with the words 5 and 6, and publishes
abbrev pub OPERATOR_BYTES : List ℕ
OPERATOR_BYTES = codes "HKO1" ++ 1 ∷ 0 ∷ 0 ∷ 0 ∷ 12 ∷ 0 ∷ 0 ∷ 0 ∷ 7 ∷ 0 ∷ 0 ∷ 0 ∷ 5 ∷ 0 ∷ 0 ∷ 0 ∷ 6 ∷ 6 ∷ 0 ∷ 0 ∷ 0 ∷ 0 ∷ []

-- the station sends prints of the words 5 and 6
abbrev pub STATION_BYTES : List ℕ
STATION_BYTES = streams.prints_hello ++ streams.print_packet 5 0 ++ streams.print_packet 6 0

-- two songs of two words fill this catalogue
abbrev pub TIGHT : Rules
TIGHT = record SMALL { limits = record { songs = 2; positions = 4; versions = 2 } }

abbrev pub MONO : Form
MONO = record { channels = 1; factor = 1 }

-- song 3 is open and has sound
abbrev pub SONG_3_OPEN : OperatorState
SONG_3_OPEN = record new_state { song = Some (record { id = 3; form = MONO; audio = 1 ∷ 0 ∷ [] }) }

-- song 3 goes with the next publish
abbrev pub SONG_3_STAGED : OperatorState
SONG_3_STAGED = record new_state { staged = edits.Withdraw 3 ∷ [] }

-- the answers to commands one after another
abbrev pub answers : Rules → OperatorState → List Command → List What
answers rules state [] = []
answers rules state (command ∷ commands) = answer rules state command ∷ answers rules (after rules state command (answer rules state command)) commands

-- a command for each refusal, and some that are done
abbrev pub COMMANDS : List Command
COMMANDS =
    AddWords 1 (5 ∷ 6 ∷ []) ∷ AddWords 1 (5 ∷ 6 ∷ []) ∷ AddWords 2 (5 ∷ []) ∷ Withdraw 9 ∷ AddWords 2 (5 ∷ 6 ∷ 7 ∷ []) ∷ AddWords 2 (5 ∷ 6 ∷ [])
    ∷ AddWords 3 (5 ∷ 6 ∷ []) ∷ Close ∷ OpenSong 3 MONO ∷ OpenSong 4 MONO
    ∷ Audio [] ∷ Close ∷ Publish ∷ Publish ∷ Publish ∷ []

-- a batch with song 7, a block of its words, and what is found of it
abbrev pub SONGS_7 : List Edit
SONGS_7 = Add 7 (record { words = 5 ∷ 6 ∷ []; limit = 1 }) ∷ []

abbrev pub BLOCK_5 : Block
BLOCK_5 = record { segment = 0; first = 0; query = record { prints = record { word = 5; mask = 0 } ∷ record { word = 6; mask = 0 } ∷ [] } }

abbrev pub FOUND_5 : List Match
FOUND_5 = record { id = 7; start = 0; errors = 0 } ∷ []
