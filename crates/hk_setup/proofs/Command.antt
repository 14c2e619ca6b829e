-- The monitor's command is simple and has options alone, so that the values of its numerals passed their tests.
use Rattle.std.proofs.Common.{◌≡◌, ◌==◌, ◌&&◌, ◌||◌, Bool, true, false, not, cond, codes, Ok, Err, Result, List, [], ◌∷◌, length, arith, Option, Some, None, refl, sym, ap, ◌∙◌}
use Rattle.std.specs.List.{list_all}
use Rattle.std.specs.Str.{bytes_eq}
use Rattle.std.proofs.lemmas.Bool.{eqb-true}
use Rattle.clap.specs.Facts.{parser_of_value}
use Rattle.clap.specs.Walk.{Row, Rule, Text, action_of, is_empty, takes_values}
use Rattle.clap.specs.Simple.{App, built, matches_of}
use Rattle.clap.specs.Takes.{takes}
use Rattle.clap.specs.Faults.{fault_of, is_simple_and_free}
use Rattle.clap.specs.ValueTests.{accepts}
use Rattle.clap.specs.declared.builder.action.ArgAction.{ArgAction}
use Rattle.clap.specs.declared.builder.action.ArgAction.TheVariants.{Set}
use Rattle.clap.specs.declared.builder.value_parser.ValueParser.{ValueParser}
use Rattle.clap.specs.declared.builder.value_parser.ValueParser.TheVariants.{Unsigned}
use Rattle.clap.proofs.ValueTestLemmas.{accepts-Accepts}
use Rattle.hk_spec_monitor.specs.Setup.{Numeral, command, stations_option, workers_option, flips_option, hop_option, songs_option, positions_option, versions_option, bytes_option, station_port_option, operator_port_option, setup_in, setup_of}
use Rattle.hk_setup.specs.declared.reading.WordsFault.{WordsFault}
use Rattle.hk_setup.specs.declared.reading.WordsFault.TheVariants.{Usage, NoMemory}
use Rattle.hk_setup.specs.Reading.{IfUsage, OnUsage, is_taken, rows_taken}
use Rattle.hk_setup.specs.Numerals.{HasPassed, HavePassed}
use Rattle.hk_setup.proofs.Faultless.{IsEasy, takes_where_faultless}
use Rattle.hk_setup.proofs.Accepted.{IsTested, AreTested, both, first_tested}

pub command_easy : IsEasy command
command_easy = record { simple = refl; leaf = refl; defaults = refl; valid = λ rows. refl }

pub command_free : is_simple_and_free command ≡ true
command_free = refl

-- A command that is this one takes words without a fault, finds their rows, and takes no words that it refuses for another cause than memory.
pub taken : (a : App) (words : List Text) → a ≡ command → fault_of a words ≡ [] → is_taken words ≡ true
unfolding is_taken
taken a words same none = takes_where_faultless command words command_easy (sym (ap (λ (x : App). fault_of x words) same) ∙ none)

pub rows_found : (a : App) (words : List Text) (rows : List Row) → a ≡ command → rows ≡ matches_of a words → rows ≡ rows_taken words
unfolding rows_taken
rows_found a words rows same is = is ∙ ap (λ (x : App). matches_of x words) same

refuted : (b : Bool) → (b ≡ true → ⊥) → b ≡ false
refuted true wrong = absurd (wrong refl)
refuted false wrong = refl

pub untaken : (a : App) (words : List Text) (r : WordsFault) → a ≡ command → (r ≡ Usage → takes a words ≡ true → ⊥) → OnUsage r (is_taken words ≡ false)
unfolding is_taken
untaken a words Usage same wrong = refuted (takes command words) (λ e. wrong refl (ap (λ (x : App). takes x words) same ∙ e))
untaken a words NoMemory same wrong = tt

-- what is asked for behind the name, by whether the command takes the words
pub asked : (words : List Text) → is_taken (codes "hkmon" ∷ words) ≡ true → setup_of words ≡ Some (setup_in (rows_taken (codes "hkmon" ∷ words)))
unfolding setup_of is_taken rows_taken
asked words e = ap (λ b. cond b (Some (setup_in (matches_of command (codes "hkmon" ∷ words)))) None) e

pub unasked : (words : List Text) → is_taken (codes "hkmon" ∷ words) ≡ false → setup_of words ≡ None
unfolding setup_of is_taken
unasked words e = ap (λ b. cond b (Some (setup_in (matches_of command (codes "hkmon" ∷ words)))) None) e

test_of : Numeral → Text → Bool
test_of n = accepts false (Unsigned n.low n.high)

-- whether a rule is an option with one value, and tests it so where it is this numeral's
is_set : ArgAction → Bool
is_set Set = true
is_set _ = false

tests_as : Numeral → Option ValueParser → Bool → Bool
tests_as n (Some (Unsigned low high)) ignore_case = (low == n.low) && ((high == n.high) && not ignore_case)
tests_as n _ ignore_case = false

option_test : Numeral → Rule → Bool
option_test n a = is_set (action_of a) && (is_empty a.missing && (takes_values a && (is_empty a.defaults && (not (bytes_eq a.id n.name) || tests_as n a.parser a.ignore_case))))

set_is : (x : ArgAction) → is_set x ≡ true → x ≡ Set
unfolding is_set
set_is Set e = refl
set_is x e = cc

empty_is : {X : Type 0} (xs : List X) → is_empty xs ≡ true → xs ≡ []
empty_is [] e = refl
empty_is (x ∷ xs) e =
    let bad : length (x ∷ xs) ≡ 0 = eqb-true (length (x ∷ xs)) 0 e in
    absurd (omega arith)

parser_tests : (n : Numeral) (v : Text) (q : Option ValueParser) (ignore_case : Bool) → tests_as n q ignore_case ≡ true → accepts ignore_case (parser_of_value q) v ≡ true
    → test_of n v ≡ true
unfolding tests_as test_of
parser_tests n v (Some (Unsigned low high)) ignore_case e passed =
    let h = both (low == n.low) _ e in
    let g = both (high == n.high) _ h.1 in
    rw (← eqb-true low n.low h.0, ← eqb-true high n.high g.0) passed
parser_tests n v q ignore_case e passed = cc

tested_by : (n : Numeral) (a : Rule) → option_test n a ≡ true → IsTested n.name (test_of n) a
unfolding option_test
tested_by n a e =
    let h = both (is_set (action_of a)) _ e in
    let g = both (is_empty a.missing) _ h.1 in
    let f = both (takes_values a) _ g.1 in
    let d = both (is_empty a.defaults) _ f.1 in
    record {
      set = set_is (action_of a) h.0;
      missing = empty_is a.missing g.0;
      takes = f.0;
      defaults = empty_is a.defaults d.0;
      tested = λ same v passed. parser_tests n v a.parser a.ignore_case (rw same at d.1) passed;
    }

all_tested : (n : Numeral) (c : List Rule) → list_all (option_test n) c ≡ true → AreTested n.name (test_of n) c
all_tested n [] e = tt
all_tested n (a ∷ c) e =
    let h = both (option_test n a) _ e in
    (tested_by n a h.0, all_tested n c h.1)

passed_by : (n : Numeral) (words : List Text) → list_all (option_test n) (built command).top.rules ≡ true → takes command words ≡ true → HasPassed (matches_of command words) n
unfolding test_of
passed_by n words tests e text first =
    accepts-Accepts false (Unsigned n.low n.high) text
    (first_tested n.name (test_of n) command words command_easy (all_tested n (built command).top.rules tests) e text first)

pub have_passed : (words : List Text) → is_taken words ≡ true → HavePassed (rows_taken words)
unfolding option_test is_set tests_as is_taken rows_taken
have_passed words e = record {
  stations = passed_by stations_option words refl e;
  workers = passed_by workers_option words refl e;
  flips = passed_by flips_option words refl e;
  hop = passed_by hop_option words refl e;
  songs = passed_by songs_option words refl e;
  positions = passed_by positions_option words refl e;
  versions = passed_by versions_option words refl e;
  bytes = passed_by bytes_option words refl e;
  station_port = passed_by station_port_option words refl e;
  operator_port = passed_by operator_port_option words refl e;
}

pub IfUsage-weaker : {T : Type 0} (r : Result T WordsFault) (P Q : Type 0) → (P → Q) → IfUsage r P → IfUsage r Q
IfUsage-weaker (Ok x) P Q f h = tt
IfUsage-weaker (Err Usage) P Q f h = f h
IfUsage-weaker (Err NoMemory) P Q f h = tt
