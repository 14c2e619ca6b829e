-- What the definitions say of all options, by what the words are one after another.
use Rattle.std.proofs.Common.{◌≡◌, ℕ, ◌<◌, ◌==◌, ◌≤◌, ◌-◌, nat_le, length, take, drop, get_or, String, string_bytes, arith, Bool, true, false, not, ◌&&◌, ◌||◌, ◌⊎◌, inl, inr, cond, List, [], ◌∷◌, map, filter, Option, Some, None, is_some, option_map, unwrap_or, find, bytes_eq, refl, sym, ◌∙◌, ap, subst}
use Rattle.std.specs.List.{list_any, list_all}
use Rattle.std.specs.Option.{option_map_or, option_and_then}
use Rattle.std.proofs.Math.Bool.{or-false}
use Rattle.std.proofs.lemmas.List.{take_all}
use Rattle.std.proofs.lemmas.Bool.{and_parts, cases_Bool, or_cases, eqb-true, leb-true}
use Rattle.std.proofs.lemmas.Slice.Eq.{bytes_eq-Decides}
use Rattle.hk_spec_sound.specs.Limits.{greatest}
use Rattle.hk_spec_streams.specs.Pieces.{is_one_of}
use Rattle.hk_spec_runs.specs.Options as verbs
use Rattle.hk_spec_runs.specs.Options.{Verb, Choice, Values, Within, OneOf, STATIONS, MADE_STATIONS, FLIPS, HOP, SONGS, POSITIONS, VERSIONS, BYTES, CHANNELS, FACTOR, is_taken, options_for}
use Rattle.hk_spec_runs.specs.Options.{fits as values_fit}
use Rattle.hk_spec_runs.specs.Words.{paired, each_once, is_given, options_of, number_written, given_or, default_of}
use Rattle.hk_words.specs.declared.choice.Choice as Choices
use Rattle.hk_words.specs.Choices.{choice_of, is_choice, gives, highest}
use Rattle.hk_words.specs.Options.{word_texts, pairs_of, behind, are_options, value_fits}
use Rattle.hk_words.specs.Rules.{RunValuesFit, PrintValuesFit}

pub any-map : {A B : Type 0} (f : A → B) (t : B → Bool) (xs : List A) → list_any (λ x. t (f x)) xs ≡ list_any t (map f xs)
any-map f t [] = refl
any-map f t (x ∷ xs) = ap (λ b. t (f x) || b) (any-map f t xs)

is_even : List (List ℕ) → Bool
is_even [] = true
is_even (name ∷ []) = false
is_even (name ∷ number ∷ words) = is_even words

abbrev names : List (List ℕ × List ℕ) → List (List ℕ)
names pairs = map (λ p. p.0) pairs

paired-is : (words : List (List ℕ)) → paired words ≡ cond (is_even words) (Some (pairs_of words)) None
unfolding is_even
paired-is [] = refl
paired-is (name ∷ []) = refl
paired-is (name ∷ number ∷ words) =
    ap (option_map (λ pairs. (name, number) ∷ pairs)) (paired-is words)
    ∙ elim (is_even words) as (λ b. option_map (λ pairs. (name, number) ∷ pairs) (cond b (Some (pairs_of words)) None) ≡ cond b (Some ((name, number) ∷ pairs_of words)) None) [ true ↦ refl | false ↦ refl ]

-- whether a name stands among the names is whether a number stands behind it
names-behind : (words : List (List ℕ)) (name : List ℕ) → list_any (bytes_eq name) (names (pairs_of words)) ≡ is_some (behind words name)
names-behind [] name = refl
names-behind (next ∷ []) name = refl
names-behind (next ∷ number ∷ words) name =
    ap (λ b. bytes_eq name next || b) (names-behind words name)
    ∙ elim (bytes_eq name next) as (λ b. (b || is_some (behind words name)) ≡ is_some (cond b (Some number) (behind words name))) [ true ↦ refl | false ↦ refl ]

regrouped : (g n e a o : Bool) → (g && (n && (e && (a && o)))) ≡ (e && ((g && a) && (n && o)))
regrouped true true e a o = refl
regrouped true false true true o = refl
regrouped true false true false o = refl
regrouped true false false a o = refl
regrouped false n true a o = refl
regrouped false n false a o = refl

parts : (choices : List Choice) (words : List (List ℕ))
    → are_options choices words ≡ (is_even words && (list_all (is_given choices) (pairs_of words) && each_once (names (pairs_of words))))
unfolding is_even
parts choices [] = refl
parts choices (name ∷ []) = refl
parts choices (name ∷ number ∷ words) =
    ap (λ b. is_given choices (name, number) && (not b && are_options choices words)) (sym (names-behind words name))
    ∙ ap (λ b. is_given choices (name, number) && (not (list_any (bytes_eq name) (names (pairs_of words))) && b)) (parts choices words)
    ∙ regrouped (is_given choices (name, number)) (not (list_any (bytes_eq name) (names (pairs_of words)))) (is_even words) (list_all (is_given choices) (pairs_of words)) (each_once (names (pairs_of words)))

pub options-are : (choices : List Choice) (words : List (List ℕ)) → options_of choices words ≡ cond (are_options choices words) (Some (pairs_of words)) None
options-are choices words =
    let test : List (List ℕ × List ℕ) → Bool = λ pairs. list_all (is_given choices) pairs && each_once (names pairs) in
    let whole : List (List ℕ × List ℕ) → Option (List (List ℕ × List ℕ)) = λ pairs. cond (test pairs) (Some pairs) None in
    ap (option_and_then whole) (paired-is words)
    ∙ elim (is_even words) as (λ b. option_and_then whole (cond b (Some (pairs_of words)) None) ≡ cond (b && test (pairs_of words)) (Some (pairs_of words)) None) [ true ↦ refl | false ↦ refl ]
    ∙ ap (λ b. cond b (Some (pairs_of words)) None) (sym (parts choices words))

pub options-some : (choices : List Choice) (words : List (List ℕ)) → are_options choices words ≡ true → options_of choices words ≡ Some (pairs_of words)
options-some choices words are = options-are choices words ∙ ap (λ b. cond b (Some (pairs_of words)) None) are

pub options-none : (choices : List Choice) (words : List (List ℕ)) → are_options choices words ≡ false → options_of choices words ≡ None
options-none choices words not = options-are choices words ∙ ap (λ b. cond b (Some (pairs_of words)) None) not

-- fewer words than two are options if there are none
pub at_end : {A : Type 0} (choices : List Choice) (rest : List (String A)) → length rest < 2 → (length rest == 0) ≡ are_options choices (word_texts rest)
at_end choices [] few = refl
at_end choices (word ∷ []) few = refl
at_end choices (word ∷ next ∷ rest) few = absurd (omega arith)

-- what doesn't stand behind the first word stands further on
pub behind_further : {A : Type 0} (words : List (String A)) (name : List ℕ) (next : String A) (n : ℕ) → 2 ≤ length words → next ≡ get_or words 0 next
    → bytes_eq name (string_bytes next) ≡ false → n ≡ length words - 2 → behind (word_texts words) name ≡ behind (word_texts (take n (drop 2 words))) name
behind_further [] name next n long first other rest = absurd (omega arith)
behind_further (word ∷ []) name next n long first other rest = absurd (omega arith)
behind_further (word ∷ number ∷ words) name next n long first other rest =
    ap (λ w. cond (bytes_eq name (string_bytes w)) (Some (string_bytes number)) (behind (word_texts words) name)) (sym first)
    ∙ ap (λ b. cond b (Some (string_bytes number)) (behind (word_texts words) name)) other
    ∙ ap (λ ws. behind (word_texts ws) name) (sym (take_all n words (omega (arith, rest))))

-- the number that is given with a name, by the word behind it
pub given_or-is : (words : List (List ℕ)) (name : List ℕ) (n : ℕ)
    → given_or (pairs_of words) name n ≡ option_map_or (λ number. unwrap_or (number_written number) 0) (behind words name) n
given_or-is [] name n = refl
given_or-is (next ∷ []) name n = refl
given_or-is (next ∷ number ∷ words) name n =
    elim (bytes_eq name next) as (λ b.
    option_map_or (λ p. unwrap_or (number_written p.1) 0) (cond b (Some (next, number)) (find (λ p. bytes_eq name p.0) (pairs_of words))) n
    ≡ option_map_or (λ m. unwrap_or (number_written m) 0) (cond b (Some number) (behind words name)) n) [ true ↦ refl | false ↦ given_or-is words name n ]

pub given_found : (words : List (List ℕ)) (name : List ℕ) (n : ℕ) (number : List ℕ) → Some number ≡ behind words name
    → unwrap_or (number_written number) 0 ≡ given_or (pairs_of words) name n
given_found words name n number found = ap (λ o. option_map_or (λ m. unwrap_or (number_written m) 0) o n) found ∙ sym (given_or-is words name n)

pub given_missing : (words : List (List ℕ)) (name : List ℕ) (n : ℕ) → None ≡ behind words name → n ≡ given_or (pairs_of words) name n
given_missing words name n missing = ap (λ o. option_map_or (λ m. unwrap_or (number_written m) 0) o n) missing ∙ sym (given_or-is words name n)

picked : {A : Type 0} (t f : A → Bool) (xs : List A) → list_any (λ x. t x && f x) xs ≡ list_any f (filter t xs)
picked t f [] = refl
picked t f (x ∷ xs) =
    ap (λ b. (t x && f x) || b) (picked t f xs)
    ∙ elim (t x) as (λ b. ((b && f x) || list_any f (filter t xs)) ≡ list_any f (cond b (x ∷ filter t xs) (filter t xs))) [ true ↦ refl | false ↦ refl ]

-- no other of the choices has this one's name
abbrev pub IsAlone : List Choice → Choice → Type 0
IsAlone choices c = (filter (λ d. bytes_eq d.name c.name) choices ≡ c ∷ []) ⊎ (filter (λ d. bytes_eq d.name c.name) choices ≡ [])

taken : (choices : List Choice) (c : Choice) (number : List ℕ) → IsAlone choices c → is_given choices (c.name, number) ≡ true
    → option_map_or (values_fit c.values) (number_written number) false ≡ true
taken choices c number alone given =
    let fit : Choice → Bool = λ d. option_map_or (values_fit d.values) (number_written number) false in
    let found : list_any fit (filter (λ d. bytes_eq d.name c.name) choices) ≡ true = sym (picked (λ d. bytes_eq d.name c.name) fit choices) ∙ given in
    elim alone [
      | inl one ↦ sym (or-false (fit c)) ∙ ap (list_any fit) (sym one) ∙ found
      | inr none ↦ absurd (let no : false ≡ true = ap (list_any fit) (sym none) ∙ found in cc)
    ]

-- the options that a name and a number may be, as the definitions have them
pub given-is : (verb : Verb) (name number : List ℕ) (choices : List Choices.Choice)
    → list_any (gives verb name number) choices ≡ is_given (filter (is_taken verb) (map choice_of choices)) (name, number)
unfolding gives
given-is verb name number choices =
    any-map choice_of (λ c. is_taken verb c && is_choice (name, number) c) choices
    ∙ picked (is_taken verb) (is_choice (name, number)) (map choice_of choices)

-- a value is in its option's range, where the word behind its name is, and else its default
value_in : (f : ℕ → Bool) (d : ℕ) (word : Option (List ℕ)) → option_map_or (λ n. option_map_or f (number_written n) false) word (f d) ≡ true
    → f (option_map_or (λ n. unwrap_or (number_written n) 0) word d) ≡ true
value_in f d None fit = fit
value_in f d (Some word) fit = by (number_written word) fit
  where
    by : (o : Option ℕ) → option_map_or f o false ≡ true → f (unwrap_or o 0) ≡ true
    by (Some n) fit = fit
    by None fit = absurd (let no : false ≡ true = fit in cc)

-- in words that are options each value fits
module _ (choices : List Choice) (c : Choice) (d : ℕ) (alone : IsAlone choices c) (default : values_fit c.values d ≡ true) where
  given_fits : (words : List (List ℕ)) → are_options choices words ≡ true
      → option_map_or (λ n. option_map_or (values_fit c.values) (number_written n) false) (behind words c.name) (values_fit c.values d) ≡ true
  given_fits [] are = default
  given_fits (next ∷ []) are = default
  given_fits (next ∷ number ∷ words) are =
      let both = and_parts (is_given choices (next, number)) (not (is_some (behind words next)) && are_options choices words) are in
      let further = and_parts (not (is_some (behind words next))) (are_options choices words) both.1 in
      let value : Bool → Bool = λ b. option_map_or (λ n. option_map_or (values_fit c.values) (number_written n) false) (cond b (Some number) (behind words c.name)) (values_fit c.values d) in
      elim (cases_Bool (bytes_eq c.name next)) [
        | inl same ↦
            let name : next ≡ c.name = sym ((bytes_eq-Decides c.name next).0 same) in
            ap value same ∙ taken choices c number alone (subst (λ n. is_given choices (n, number) ≡ true) name both.0)
        | inr other ↦ ap value other ∙ given_fits words further.1
      ]

  value_fits_as : (words : List (List ℕ)) → are_options choices words ≡ true → values_fit c.values (given_or (pairs_of words) c.name d) ≡ true
  value_fits_as words are = ap (values_fit c.values) (given_or-is words c.name d) ∙ value_in (values_fit c.values) d (behind words c.name) (given_fits words are)

-- an option whose default is a number
fits : (choices : List Choice) (c : Choice) (words : List (List ℕ)) → IsAlone choices c → values_fit c.values (default_of (pairs_of words) c.default) ≡ true
    → are_options choices words ≡ true → value_fits words c ≡ true
fits choices c words alone default are = value_fits_as choices c (default_of (pairs_of words) c.default) alone default words are

pub replay_values : (words : List (List ℕ)) → are_options (options_for verbs.Replay) words ≡ true → RunValuesFit words STATIONS
replay_values words are = record {
  stations = fits (options_for verbs.Replay) STATIONS words (inl refl) refl are;
  flips = fits (options_for verbs.Replay) FLIPS words (inl refl) refl are;
  hop = fits (options_for verbs.Replay) HOP words (inl refl) refl are;
  songs = fits (options_for verbs.Replay) SONGS words (inl refl) refl are;
  positions = fits (options_for verbs.Replay) POSITIONS words (inl refl) refl are;
  versions = fits (options_for verbs.Replay) VERSIONS words (inl refl) refl are;
  bytes = fits (options_for verbs.Replay) BYTES words (inl refl) refl are;
}

pub make_values : (words : List (List ℕ)) → are_options (options_for verbs.Make) words ≡ true → RunValuesFit words MADE_STATIONS
make_values words are = record {
  stations = fits (options_for verbs.Make) MADE_STATIONS words (inl refl) refl are;
  flips = fits (options_for verbs.Make) FLIPS words (inl refl) refl are;
  hop = fits (options_for verbs.Make) HOP words (inl refl) refl are;
  songs = fits (options_for verbs.Make) SONGS words (inr refl) refl are;
  positions = fits (options_for verbs.Make) POSITIONS words (inr refl) refl are;
  versions = fits (options_for verbs.Make) VERSIONS words (inr refl) refl are;
  bytes = fits (options_for verbs.Make) BYTES words (inr refl) refl are;
}

pub print_values : (words : List (List ℕ)) → are_options (options_for verbs.Print) words ≡ true → PrintValuesFit words
print_values words are = record {
  channels = fits (options_for verbs.Print) CHANNELS words (inl refl) refl are;
  factor = fits (options_for verbs.Print) FACTOR words (inl refl) refl are;
  flips = fits (options_for verbs.Print) FLIPS words (inl refl) refl are;
  bytes = fits (options_for verbs.Print) BYTES words (inl refl) refl are;
}

-- a value that fits is at most the greatest
among_most : (numbers : List ℕ) (n : ℕ) → is_one_of numbers n ≡ true → n ≤ greatest numbers
among_most [] n is = absurd (let no : false ≡ true = is in cc)
among_most (m ∷ numbers) n is = elim (or_cases (m == n) (is_one_of numbers n) is) [
  | inl same ↦ let e : m ≡ n = eqb-true m n same in omega (arith, e)
  | inr further ↦ let below : n ≤ greatest numbers = among_most numbers n further in omega (arith, below)
]

pub most : (values : Values) (n : ℕ) → values_fit values n ≡ true → n ≤ highest values
most (Within range) n fit = leb-true n range.most (and_parts (nat_le range.least n) (nat_le n range.most) fit).1
most (OneOf numbers) n fit = among_most numbers n fit
