use Rattle.std.proofs.Common.{◌≡◌, ◌∙◌, ℕ, ◌≤◌, Some, sym, ap, subst}
use Rattle.std.specs.Option.{option_map_or}
use Rattle.std.specs.Str.Parse.{digits_value, without_leading_plus}
use Rattle.clap.specs.Matches.{found_of}
use Rattle.clap.specs.Walk.{first_of, rows_of}
use Rattle.clap.specs.Words.{IsUnsignedIn}
use Rattle.clap.proofs.WalkLemmas.{first_value-rows}
use Rattle.hk_setup.proofs.numeral.Numeral.read.Goals as goal
use Rattle.hk_setup.proofs.numeral.Numeral.read.Goals.{In-Some}

given : (c : In-Some) → first_of c.args.self.now.name.now (rows_of (found_of c.args.found.now)) ≡ Some c.in-Some.text.now
given c = sym (first_value-rows (found_of c.args.found.now) c.args.self.now.name.now) ∙ sym c.in-Some.ensures

passed : (c : In-Some) → IsUnsignedIn c.args.self.now.values.least c.args.self.now.values.most c.in-Some.text.now
passed c = c.requires.passed c.in-Some.text.now (given c)

pub unreachable-requires : goal.unreachable-requires
unreachable-requires c =
    let h = passed (goal.at.unreachable-requires c).In-Some in
    c.in-Err.ensures.value.0 (h.0, h.1)

pub returns-in-Ok-clause-value : goal.returns-in-Ok-clause-value
returns-in-Ok-clause-value c =
    c.in-Ok.ensures.value.0.1 ∙ sym (ap (λ o. option_map_or (λ text. digits_value 10 (without_leading_plus text)) o c.args.self.now.default) (given (goal.at.returns-in-Ok-clause-value c).In-Some))

pub returns-in-Ok-clause-least : goal.returns-in-Ok-clause-least
returns-in-Ok-clause-least c = let P : ℕ → Type 0 = λ n. c.args.self.now.values.least ≤ n in subst P (sym c.in-Ok.ensures.value.0.1) (passed (goal.at.returns-in-Ok-clause-least c).In-Some).2

pub returns-in-Ok-clause-most : goal.returns-in-Ok-clause-most
returns-in-Ok-clause-most c = let P : ℕ → Type 0 = λ n. n ≤ c.args.self.now.values.most in subst P (sym c.in-Ok.ensures.value.0.1) (passed (goal.at.returns-in-Ok-clause-most c).In-Some).3

pub returns-in-None-clause-value : goal.returns-in-None-clause-value
returns-in-None-clause-value c =
    sym (ap (λ o. option_map_or (λ text. digits_value 10 (without_leading_plus text)) o c.args.self.now.default)
    (sym (first_value-rows (found_of c.args.found.now) c.args.self.now.name.now) ∙ sym c.in-None.ensures))
