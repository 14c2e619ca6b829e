-- Options word by word.
use Rattle.std.specs.Prelude.{ℕ, Bool, false, true, not, ◌&&◌, if◌then◌else◌, List, [], ◌∷◌, map, Option, Some, None, is_some, String, string_bytes, bytes_eq}
use Rattle.hk_spec_runs.specs.Options.{Verb, Choice, options_for, fits}
use Rattle.hk_spec_runs.specs.Words.{is_given, value_of}

-- the options that a command takes, as one name where the rows of their table don't matter
unfoldable pub taken_by : Verb → List Choice
taken_by verb = options_for verb

-- the words' bytes
abbrev pub word_texts : {A : Type 0} → List (String A) → List (List ℕ)
word_texts words = map string_bytes words

-- a name and a number, and so on; an odd word at the end is left out
abbrev pub pairs_of : List (List ℕ) → List (List ℕ × List ℕ)
pairs_of [] = []
pairs_of (name ∷ []) = []
pairs_of (name ∷ number ∷ words) = (name, number) ∷ pairs_of words

-- the number's word of the first option with this name
abbrev pub behind : List (List ℕ) → List ℕ → Option (List ℕ)
behind [] name = None
behind (next ∷ []) name = None
behind (next ∷ number ∷ words) name = if bytes_eq name next then Some number else behind words name

-- whether the words are pairs, each one of the choices with a value that fits, and no name stands twice
abbrev pub are_options : List Choice → List (List ℕ) → Bool
are_options choices [] = true
are_options choices (name ∷ []) = false
are_options choices (name ∷ number ∷ words) =
    is_given choices (name, number) && (not (is_some (behind words name)) && are_options choices words)

-- whether an option's value, given or not, is one that it may have
abbrev pub value_fits : List (List ℕ) → Choice → Bool
value_fits words c = fits c.values (value_of (pairs_of words) c)
