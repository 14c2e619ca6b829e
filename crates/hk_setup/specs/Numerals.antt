-- An option of the code, as the definitions have it, and its values.
use Rattle.std.specs.Prelude.{◌≡◌, ℕ, List, Some}
use Rattle.clap.specs.Walk.{Row}
use Rattle.clap.specs.Words.{IsUnsignedIn, first_of}
use Rattle.hk_spec_monitor.specs.Setup as setup
use Rattle.hk_spec_monitor.specs.Setup.{stations_option, workers_option, flips_option, hop_option, songs_option, positions_option, versions_option, bytes_option, station_port_option, operator_port_option}
use Rattle.hk_setup.specs.declared.numeral.Numeral.{Numeral}

abbrev pub numeral_of : Numeral → setup.Numeral
numeral_of n = record { name = n.name.now; low = n.values.least; high = n.values.most; default = n.default }

-- the option's value among what was found is a number in its range
abbrev pub HasPassed : List Row → setup.Numeral → Type 0
HasPassed rows n = (text : List ℕ) → first_of n.name rows ≡ Some text → IsUnsignedIn n.low n.high text

-- the same of all options
pub record HavePassed (rows : List Row) : Type 0 where
  pub stations : HasPassed rows stations_option
  pub workers : HasPassed rows workers_option
  pub flips : HasPassed rows flips_option
  pub hop : HasPassed rows hop_option
  pub songs : HasPassed rows songs_option
  pub positions : HasPassed rows positions_option
  pub versions : HasPassed rows versions_option
  pub bytes : HasPassed rows bytes_option
  pub station_port : HasPassed rows station_port_option
  pub operator_port : HasPassed rows operator_port_option
