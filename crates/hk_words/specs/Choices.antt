-- The options as the definitions have them.
use Rattle.std.specs.Prelude.{ℕ, Bool, false, ◌&&◌, List, bytes_eq}
use Rattle.std.specs.Option.{option_map_or}
use Rattle.hk_limits.specs.Ranges.{range_meant}
use Rattle.hk_spec_sound.specs.Limits.{CHANNELS, FACTORS, greatest}
use Rattle.hk_spec_runs.specs.Options as options
use Rattle.hk_spec_runs.specs.Words as words
use Rattle.hk_words.specs.declared.choice.Values.{Values}
use Rattle.hk_words.specs.declared.choice.Values.TheVariants.{Within, Channels, Factors}
use Rattle.hk_words.specs.declared.choice.Default.{Default}
use Rattle.hk_words.specs.declared.choice.Default.TheVariants.{Number, ValueOf}
use Rattle.hk_words.specs.declared.choice.Verb.{Verb}
use Rattle.hk_words.specs.declared.choice.Verb.TheVariants.{Replay, Print, Make}
use Rattle.hk_words.specs.declared.choice.Choice.{Choice}

abbrev pub values_meant : Values → options.Values
values_meant (Within range) = options.Within (range_meant range)
values_meant Channels = options.OneOf CHANNELS
values_meant Factors = options.OneOf FACTORS

abbrev pub default_meant : Default → options.Default
default_meant (Number n) = options.Number n
default_meant (ValueOf name n) = options.ValueOf name.now n

abbrev pub verb_meant : Verb → options.Verb
verb_meant Replay = options.Replay
verb_meant Print = options.Print
verb_meant Make = options.Make

abbrev pub choice_of : Choice → options.Choice
choice_of c = record {
  name = c.name.now;
  values = values_meant c.values;
  default = default_meant c.default;
  replay = c.replay;
  print = c.print;
  make = c.make;
}

-- whether a name and a number are this option with a value that it may have
abbrev pub is_choice : List ℕ × List ℕ → options.Choice → Bool
is_choice pair c = bytes_eq c.name pair.0 && option_map_or (options.fits c.values) (words.number_written pair.1) false

unfoldable pub gives : options.Verb → List ℕ → List ℕ → Choice → Bool
gives verb name number c = options.is_taken verb (choice_of c) && is_choice (name, number) (choice_of c)

-- the greatest value
abbrev pub highest : options.Values → ℕ
highest (options.Within range) = range.most
highest (options.OneOf numbers) = greatest numbers
