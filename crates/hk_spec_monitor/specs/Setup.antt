-- What the words of the monitor ask for.
use Rattle.std.specs.Prelude.{ℕ, true, List, [], ◌∷◌, ◌++◌, String, string_bytes, map, fold, codes, find, slice_get, bytes_eq, if◌then◌else◌, Option, Some, None}
use Rattle.std.specs.Option.{option_map_or, option_and_then}
use Rattle.std.specs.Str.Parse.{digits_value, without_leading_plus}
use Rattle.clap.specs.Simple.{App, new_app, new_rule, with_rule, on_top, matches_of}
use Rattle.clap.specs.Takes.{takes}
use Rattle.clap.specs.Walk.{Row, Rule}
use Rattle.clap.specs.declared.builder.action.ArgAction.TheVariants.{Set}
use Rattle.clap.specs.declared.builder.value_parser.ValueParser.TheVariants.{Unsigned}
use Rattle.hk_spec_sound.specs.Prints.{full_analysis}
use Rattle.hk_spec_matching.specs.Matching.{MOST_ERRORS}
use Rattle.hk_spec_settings.specs.Settings.{Rules}

-- the rules of a run, the number of workers, and what the door listens on
pub record Setup : Type 0 where
  pub rules : Rules
  pub workers : ℕ
  pub address : List ℕ
  pub station_port : ℕ
  pub operator_port : ℕ
  pub logs : List ℕ

-- an option that is a number: its name, its bounds, and its value where it isn't given
pub record Numeral : Type 0 where
  pub name : List ℕ
  pub low : ℕ
  pub high : ℕ
  pub default : ℕ

abbrev pub stations_option : Numeral
stations_option = record { name = codes "stations"; low = 1; high = 64; default = 1 }

abbrev pub workers_option : Numeral
workers_option = record { name = codes "workers"; low = 1; high = 16; default = 2 }

abbrev pub flips_option : Numeral
flips_option = record { name = codes "flips"; low = 0; high = 10; default = 4 }

abbrev pub hop_option : Numeral
hop_option = record { name = codes "hop"; low = 1; high = 256; default = 64 }

abbrev pub songs_option : Numeral
songs_option = record { name = codes "songs"; low = 1; high = 65536; default = 1000 }

abbrev pub positions_option : Numeral
positions_option = record { name = codes "positions"; low = 256; high = 16777216; default = 1048576 }

abbrev pub versions_option : Numeral
versions_option = record { name = codes "versions"; low = 1; high = 1000000000; default = 1000000 }

abbrev pub bytes_option : Numeral
bytes_option = record { name = codes "bytes"; low = 1; high = 4000000000000000000; default = 1000000000000 }

abbrev pub station_port_option : Numeral
station_port_option = record { name = codes "station-port"; low = 1; high = 65535; default = 7701 }

abbrev pub operator_port_option : Numeral
operator_port_option = record { name = codes "operator-port"; low = 1; high = 65535; default = 7702 }

abbrev pub numerals : List Numeral
numerals = stations_option ∷ workers_option ∷ flips_option ∷ hop_option ∷ songs_option ∷ positions_option ∷ versions_option ∷ bytes_option
    ∷ station_port_option ∷ operator_port_option ∷ []

-- an option with one value, as clap sees it
abbrev pub text_rule : List ℕ → Rule
text_rule name = record (new_rule name) { long = Some name; action = Some Set }

abbrev pub number_rule : Numeral → Rule
number_rule n = record (text_rule n.name) { parser = Some (Unsigned n.low n.high) }

-- the monitor's command: these options, and no flag for help or the version
abbrev pub command : App
command = on_top (λ shape. record shape { disable_help_flag = true; disable_version_flag = true })
    (fold with_rule (new_app (codes "hkmon")) (map number_rule numerals ++ text_rule (codes "address") ∷ text_rule (codes "logs") ∷ []))

-- the value of an option among what clap found, or its default
abbrev pub text_in : List Row → List ℕ → List ℕ → List ℕ
text_in rows name default = option_map_or (λ text. text) (option_and_then (λ row. slice_get row.values 0) (find (λ row. bytes_eq row.id name) rows)) default

abbrev pub number_in : List Row → Numeral → ℕ
number_in rows n = option_map_or (λ text. digits_value 10 (without_leading_plus text)) (option_and_then (λ row. slice_get row.values 0) (find (λ row. bytes_eq row.id n.name) rows)) n.default

abbrev pub setup_in : List Row → Setup
setup_in rows = record {
  rules = record {
    setting = record { analysis = full_analysis; flips = number_in rows flips_option; block = record { size = 256; hop = number_in rows hop_option } };
    errors = MOST_ERRORS;
    limits = record { songs = number_in rows songs_option; positions = number_in rows positions_option; versions = number_in rows versions_option };
    stations = number_in rows stations_option;
    bytes = number_in rows bytes_option;
  };
  workers = number_in rows workers_option;
  address = text_in rows (codes "address") (codes "127.0.0.1");
  station_port = number_in rows station_port_option;
  operator_port = number_in rows operator_port_option;
  logs = text_in rows (codes "logs") (codes "station");
}

-- what the words ask for, where the command takes them behind the program's name
unfoldable pub setup_of : List (List ℕ) → Option Setup
setup_of words = let all = codes "hkmon" ∷ words in if takes command all then Some (setup_in (matches_of command all)) else None

abbrev pub setup_asked : {A : Type 0} → List (String A) → Option Setup
setup_asked words = setup_of (map string_bytes words)
