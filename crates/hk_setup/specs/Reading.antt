-- What a reading of the words answers.
use Rattle.std.specs.Prelude.{⊤, ℕ, Bool, List, Result, Ok, Err}
use Rattle.clap.specs.Walk.{Row}
use Rattle.clap.specs.Simple.{matches_of}
use Rattle.clap.specs.Takes.{takes}
use Rattle.hk_spec_monitor.specs.Setup.{command}
use Rattle.hk_setup.specs.declared.reading.WordsFault.{WordsFault}
use Rattle.hk_setup.specs.declared.reading.WordsFault.TheVariants.{Usage, NoMemory}

-- a fact where the words are said to be no command
abbrev pub OnUsage : WordsFault → Type 0 → Type 0
OnUsage Usage P = P
OnUsage NoMemory P = ⊤

abbrev pub IfUsage : {T : Type 0} → Result T WordsFault → Type 0 → Type 0
IfUsage (Ok x) P = ⊤
IfUsage (Err fault) P = OnUsage fault P

-- whether the command takes the words, of which the first is the program's name
unfoldable pub is_taken : List (List ℕ) → Bool
is_taken words = takes command words

-- what it finds in them
unfoldable pub rows_taken : List (List ℕ) → List Row
rows_taken words = matches_of command words
