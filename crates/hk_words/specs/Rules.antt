-- What the options set, as the definitions have it.
use Rattle.std.specs.Prelude.{◌≡◌, ℕ, List, true}
use Rattle.hk_spec_sound.specs.Prints.{full_analysis}
use Rattle.hk_spec_sound.specs.Limits as limits
use Rattle.hk_spec_sound.specs.Limits.{IsInRange}
use Rattle.hk_spec_streams.specs.Pieces.{is_one_of}
use Rattle.hk_spec_matching.specs.Matching.{MOST_ERRORS}
use Rattle.hk_spec_settings.specs.Settings.{Rules}
use Rattle.hk_spec_runs.specs.Options.{Choice, Printing, FLIPS, HOP, SONGS, POSITIONS, VERSIONS, BYTES, CHANNELS, FACTOR}
use Rattle.hk_words.specs.Options.{value_fits}
use Rattle.hk_words.specs.declared.rules.RunRules.{RunRules}
use Rattle.hk_words.specs.declared.rules.PrintRules.{PrintRules}

-- the rules of a run, with what no option changes
abbrev pub rules_meant : RunRules → Rules
rules_meant r = record {
  setting = record { analysis = full_analysis; flips = r.flips; block = record { size = 256; hop = r.hop } };
  errors = MOST_ERRORS;
  limits = record { songs = r.songs; positions = r.positions; versions = r.versions };
  stations = r.stations;
  bytes = r.bytes;
}

abbrev pub printing_meant : PrintRules → Printing
printing_meant p = record { channels = p.channels; factor = p.factor; flips = p.flips; bytes = p.bytes }

-- the ranges of a run's rules
pub record RulesFit (r : RunRules) : Type 0 where
  pub stations : IsInRange limits.STATIONS r.stations
  pub flips : IsInRange limits.FLIPS r.flips
  pub hop : IsInRange limits.HOP r.hop
  pub songs : IsInRange limits.SONGS r.songs
  pub positions : IsInRange limits.POSITIONS r.positions
  pub versions : IsInRange limits.VERSIONS r.versions
  pub bytes : IsInRange limits.BYTES r.bytes

-- the ranges of the sound that is printed
pub record PrintingFits (p : PrintRules) : Type 0 where
  pub channels : is_one_of limits.CHANNELS p.channels ≡ true
  pub factor : is_one_of limits.FACTORS p.factor ≡ true
  pub flips : IsInRange limits.FLIPS p.flips
  pub bytes : IsInRange limits.BYTES p.bytes

-- the value of each option of a run fits
pub record RunValuesFit (words : List (List ℕ)) (chosen : Choice) : Type 0 where
  pub stations : value_fits words chosen ≡ true
  pub flips : value_fits words FLIPS ≡ true
  pub hop : value_fits words HOP ≡ true
  pub songs : value_fits words SONGS ≡ true
  pub positions : value_fits words POSITIONS ≡ true
  pub versions : value_fits words VERSIONS ≡ true
  pub bytes : value_fits words BYTES ≡ true

-- the value of each option of `print` fits
pub record PrintValuesFit (words : List (List ℕ)) : Type 0 where
  pub channels : value_fits words CHANNELS ≡ true
  pub factor : value_fits words FACTOR ≡ true
  pub flips : value_fits words FLIPS ≡ true
  pub bytes : value_fits words BYTES ≡ true
