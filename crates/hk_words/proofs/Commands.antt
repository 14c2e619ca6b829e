-- What each command word asks for.
use Rattle.std.proofs.Common.{◌≡◌, ℕ, ◌<◌, true, false, cond, List, [], ◌∷◌, length, String, arith, codes, Option, Some, None, option_map, bytes_eq, refl, sym, ◌∙◌, ap}
use Rattle.std.specs.Option.{option_and_then}
use Rattle.std.proofs.lemmas.Slice.Eq.{bytes_eq-Decides}
use Rattle.hk_spec_sound.specs.Limits.{SEED, is_within}
use Rattle.hk_spec_runs.specs.Options as verbs
use Rattle.hk_spec_runs.specs.Options.{MADE_STATIONS, options_for}
use Rattle.hk_spec_runs.specs.Words.{Order, Make, number_written, options_of, rules_of, order_for, make_for, order_of}
use Rattle.hk_words.specs.Options.{word_texts, pairs_of, are_options}
use Rattle.hk_words.proofs.Pairs.{options-some, options-none}

pub order-empty : {A : Type 0} (words : List (String A)) → length words < 1 → None ≡ order_of (word_texts words)
unfolding order_of
order-empty [] few = refl
order-empty (word ∷ words) few = absurd (omega arith)

pub order-make : (command : List ℕ) (words : List (List ℕ)) → bytes_eq command (codes "make") ≡ true → make_for words ≡ order_of (command ∷ words)
unfolding order_of
order-make command words is = sym (ap (λ b. cond b (make_for words) (order_for command words)) is)

pub order-other : (command : List ℕ) (words : List (List ℕ)) → bytes_eq command (codes "make") ≡ false → order_for command words ≡ order_of (command ∷ words)
unfolding order_of
order-other command words other = sym (ap (λ b. cond b (make_for words) (order_for command words)) other)

-- a command with options of its own
pub order-named : (command name : List ℕ) (words : List (List ℕ)) → bytes_eq command (codes "make") ≡ false → bytes_eq command name ≡ true
    → order_for name words ≡ order_of (command ∷ words)
order-named command name words other is = ap (λ c. order_for c words) (sym ((bytes_eq-Decides command name).0 is)) ∙ order-other command words other

pub order-none : (command : List ℕ) (words : List (List ℕ)) → bytes_eq command (codes "make") ≡ false → bytes_eq command (codes "replay") ≡ false
    → bytes_eq command (codes "print") ≡ false → None ≡ order_of (command ∷ words)
order-none command words make replay print = sym (rw (replay, print) refl) ∙ order-other command words make

-- what a seed and options ask for
abbrev made : List (List ℕ) → ℕ → Option Order
made words seed = cond (is_within SEED seed) (option_map (λ pairs. Make seed (rules_of MADE_STATIONS pairs)) (options_of (options_for verbs.Make) words)) None

made-is : (words : List (List ℕ)) (text : List ℕ) (seed : ℕ) → number_written text ≡ Some seed → made words seed ≡ make_for (text ∷ words)
made-is words text seed is = sym (ap (option_and_then (made words)) is)

pub made-some : (words : List (List ℕ)) (text : List ℕ) (seed : ℕ) → is_within SEED seed ≡ true → are_options (options_for verbs.Make) words ≡ true → number_written text ≡ Some seed
    → Some (Make seed (rules_of MADE_STATIONS (pairs_of words))) ≡ make_for (text ∷ words)
made-some words text seed fits are is =
    sym (ap (λ b. cond b (option_map (λ pairs. Make seed (rules_of MADE_STATIONS pairs)) (options_of (options_for verbs.Make) words)) None) fits
    ∙ ap (option_map (λ pairs. Make seed (rules_of MADE_STATIONS pairs))) (options-some (options_for verbs.Make) words are))
    ∙ made-is words text seed is

pub made-far : (words : List (List ℕ)) (text : List ℕ) (seed : ℕ) → is_within SEED seed ≡ false → number_written text ≡ Some seed → None ≡ make_for (text ∷ words)
made-far words text seed far is =
    sym (ap (λ b. cond b (option_map (λ pairs. Make seed (rules_of MADE_STATIONS pairs)) (options_of (options_for verbs.Make) words)) None) far) ∙ made-is words text seed is

pub made-none : (words : List (List ℕ)) (text : List ℕ) (seed : ℕ) → are_options (options_for verbs.Make) words ≡ false → number_written text ≡ Some seed → None ≡ make_for (text ∷ words)
made-none words text seed not is =
    elim (is_within SEED seed) as (λ b. None ≡ cond b (option_map (λ (pairs : List (List ℕ × List ℕ)). Make seed (rules_of MADE_STATIONS pairs)) None) None) [ true ↦ refl | false ↦ refl ]
    ∙ sym (ap (λ o. cond (is_within SEED seed) (option_map (λ pairs. Make seed (rules_of MADE_STATIONS pairs)) o) None) (options-none (options_for verbs.Make) words not))
    ∙ made-is words text seed is
