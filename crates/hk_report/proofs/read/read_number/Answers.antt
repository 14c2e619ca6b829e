use Rattle.std.proofs.Common.{◌≡◌, ℕ, ◌+◌, ◌*◌, ◌<◌, [], ◌∷◌, ◌++◌, List, arith, sym, ap, ◌∙◌, append_assoc}
use Rattle.std.specs.Fmt.{decimal}
use Rattle.std.proofs.lemmas.Fmt.{decimal_digit}
use Rattle.hk_report.proofs.Numbers.{decimal_grows}
use Rattle.hk_report.proofs.read.read_number.Goals as goal

-- the first digit
pub loop-byte-init : goal.loop-byte-init
loop-byte-init c =
    let after : List ℕ = c.in-Some.after.now in
    let digit : ℕ = c.in-Some-digit_of.digit in
    record {
      within = omega (arith, c.in-Some-digit_of.ensures);
      read = c.in-Some.ensures.cases.0 ∙ ap (λ b. b ∷ after) c.in-Some-digit_of.ensures.1 ∙ sym (ap (λ t. t ++ after) (decimal_digit digit c.in-Some-digit_of.ensures.0));
    }

-- one more digit
pub loop-byte-preserved : goal.loop-byte-preserved
loop-byte-preserved c =
    let n : ℕ = c.loop-byte.n in
    let after : List ℕ = c.in-Some-split_first.after.now in
    let digit : ℕ = c.in-Some-digit_of-2.digit in
    let small : digit < 10 = c.in-Some-digit_of-2.ensures.0 in
    let longer : c.in-Some-with_digit.longer ≡ 10 * n + digit = c.in-Some-with_digit.ensures.0 in
    let grown : decimal c.in-Some-with_digit.longer ≡ decimal n ++ (48 + digit) ∷ [] =
    ap decimal longer ∙ decimal_grows n digit c.in-Some-with_digit.ensures.1 small (omega (arith, c.in-Some-with_digit.ensures)) in
    record {
      within = omega (arith, c.in-Some-with_digit.ensures);
      read = c.loop-byte.invariant.read ∙ ap (λ t. decimal n ++ t) (c.in-Some-split_first.ensures.cases.0 ∙ ap (λ b. b ∷ after) c.in-Some-digit_of-2.ensures.1)
          ∙ sym (append_assoc (decimal n) ((48 + digit) ∷ []) after) ∙ ap (λ t. t ++ after) (sym grown);
    }
