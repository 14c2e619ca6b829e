-- The number that digits write, as std's `parse` reads it.
use Rattle.std.proofs.Common.{◌≡◌, ℕ, ◌-◌, ◌^◌, ◌<◌, ◌≤◌, true, cond, List, [], ◌∷◌, map, length, Some, None, refl, sym, ◌∙◌, ap, arith, rules, Result, Ok, Err}
use Rattle.std.specs.Char.{is_ascii_digit}
use Rattle.std.specs.Int.Digits.{number_from_digits_after}
use Rattle.std.specs.List.{list_all}
use Rattle.std.specs.Result.{OkIff, result_ok}
use Rattle.std.specs.Str.Parse.{ParsesUnsigned}
use Rattle.std.proofs.lemmas.Bool.{and_from, le-leb}
use Rattle.std.proofs.lemmas.Str.Parse.{IsNumeralModel, numerals_by_fold, digits_value_short, parse_digits, parse_gives}
use Rattle.hk_spec_runs.specs.Words.{number_written}

-- the digits behind a number
abbrev digits_read : ℕ → List ℕ → ℕ
digits_read n digits = number_from_digits_after 10 n (map (λ digit. digit - 48) digits)

own : IsNumeralModel (λ digits. list_all is_ascii_digit digits ≡ true) (digits_read 0)
own = numerals_by_fold _ (search rules) digits_read (search rules)

none : {E : Type 0} (r : Result ℕ E) → OkIff r ((0 < 0) × (digits_read 0 [] < 2 ^ 64)) (digits_read 0 []) → result_ok r ≡ None
none (Ok n) h = absurd (omega (arith, h.0.0))
none (Err e) h = refl

pub read_is : {E : Type 0} (text : List ℕ) (r : Result ℕ E) → ParsesUnsigned 64 10 text r → length text ≤ 19 → list_all is_ascii_digit text ≡ true
    → result_ok r ≡ number_written text
read_is [] r parsed few digits = none r (parse_digits own 64 [] r parsed digits)
read_is (c ∷ cs) r parsed few digits =
    let short : digits_read 0 (c ∷ cs) < 10 ^ 19 = digits_value_short own (c ∷ cs) 19 digits few in
    ap result_ok (parse_gives own 64 (c ∷ cs) r parsed digits (omega arith) (omega arith))
    ∙ sym (ap (λ b. cond b (Some (digits_read 0 (c ∷ cs))) None)
    (and_from _ _ (and_from _ _ (le-leb 1 (length (c ∷ cs)) (omega arith)) (le-leb (length (c ∷ cs)) 19 few)) digits))
