-- The options of the command line, one row an option, and what they set.
use Rattle.std.specs.Prelude.{ℕ, Bool, true, false, List, [], ◌∷◌, filter, codes}
use Rattle.hk_spec_sound.specs.Limits as limits
use Rattle.hk_spec_sound.specs.Limits.{Range, is_within}
use Rattle.hk_spec_sound.specs.Prints.{full_analysis}
use Rattle.hk_spec_streams.specs.Pieces.{is_one_of}
use Rattle.hk_spec_matching.specs.Matching.{MOST_ERRORS}
use Rattle.hk_spec_settings.specs.Settings.{Rules}

-- the values that an option may have
pub data Values : Type 0 where
  Within : Range → Values
  OneOf : List ℕ → Values

abbrev pub fits : Values → ℕ → Bool
fits (Within range) n = is_within range n
fits (OneOf numbers) n = is_one_of numbers n

-- the value of an option that isn't given: a number, or the value of the option with a name, and a number where that isn't given either
pub data Default : Type 0 where
  Number : ℕ → Default
  ValueOf : List ℕ → ℕ → Default

-- an option: its name, its values, its default, and whether each command takes it
pub record Choice : Type 0 where
  pub name : List ℕ
  pub values : Values
  pub default : Default
  pub replay : Bool
  pub print : Bool
  pub make : Bool

abbrev pub STATIONS : Choice
STATIONS = record { name = codes "--stations"; values = Within limits.STATIONS; default = Number 1; replay = true; print = false; make = false }

-- the same for `make`
abbrev pub MADE_STATIONS : Choice
MADE_STATIONS = record STATIONS { default = Number 4; replay = false; make = true }

abbrev pub FLIPS : Choice
FLIPS = record { name = codes "--flips"; values = Within limits.FLIPS; default = Number 4; replay = true; print = true; make = true }

abbrev pub HOP : Choice
HOP = record { name = codes "--hop"; values = Within limits.HOP; default = Number 64; replay = true; print = false; make = true }

abbrev pub SONGS : Choice
SONGS = record { name = codes "--songs"; values = Within limits.SONGS; default = Number 1000; replay = true; print = false; make = false }

abbrev pub POSITIONS : Choice
POSITIONS = record { name = codes "--positions"; values = Within limits.POSITIONS; default = Number 1048576; replay = true; print = false; make = false }

abbrev pub VERSIONS : Choice
VERSIONS = record { name = codes "--versions"; values = Within limits.VERSIONS; default = Number 1000000; replay = true; print = false; make = false }

abbrev pub BYTES : Choice
BYTES = record { name = codes "--bytes"; values = Within limits.BYTES; default = Number 1000000000000; replay = true; print = true; make = false }

abbrev pub CHANNELS : Choice
CHANNELS = record { name = codes "--channels"; values = OneOf limits.CHANNELS; default = Number 1; replay = false; print = true; make = false }

abbrev pub FACTOR : Choice
FACTOR = record { name = codes "--factor"; values = OneOf limits.FACTORS; default = Number 8; replay = false; print = true; make = false }

abbrev pub OPTIONS : List Choice
OPTIONS = STATIONS ∷ MADE_STATIONS ∷ FLIPS ∷ HOP ∷ SONGS ∷ POSITIONS ∷ VERSIONS ∷ BYTES ∷ CHANNELS ∷ FACTOR ∷ []

-- the rules of a run, by the value of each option, with this option for its stations
abbrev pub rules_by : (Choice → ℕ) → Choice → Rules
rules_by value stations = record {
  setting = record { analysis = full_analysis; flips = value FLIPS; block = record { size = 256; hop = value HOP } };
  errors = MOST_ERRORS;
  limits = record { songs = value SONGS; positions = value POSITIONS; versions = value VERSIONS };
  stations = value stations;
  bytes = value BYTES;
}

-- sound as prints, of so many bytes at most
pub record Printing : Type 0 where
  pub channels : ℕ
  pub factor : ℕ
  pub flips : ℕ
  pub bytes : ℕ

abbrev pub printing_by : (Choice → ℕ) → Printing
printing_by value = record { channels = value CHANNELS; factor = value FACTOR; flips = value FLIPS; bytes = value BYTES }

-- the commands
pub data Verb : Type 0 where
  Replay : Verb
  Print : Verb
  Make : Verb

abbrev pub is_taken : Verb → Choice → Bool
is_taken Replay c = c.replay
is_taken Print c = c.print
is_taken Make c = c.make

-- the options that a command takes
abbrev pub options_for : Verb → List Choice
options_for verb = filter (is_taken verb) OPTIONS
