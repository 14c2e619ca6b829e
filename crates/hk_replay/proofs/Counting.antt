-- What is counted before the summary.
use Rattle.std.proofs.Common.{◌≡◌, ℕ, ◌+◌, Bool, true, false, cond, List, [], ◌∷◌, refl, sym, ap, ◌∙◌, arith}
use Rattle.std.specs.Prelude.{◌==◌, not, count_by, take_while}
use Rattle.std.proofs.lemmas.List.Sums.{sum_by-cons, take_while-cons}
use Rattle.hk_spec_lines.specs.Make.{Tally, nothing_counted, one_if, counted, tally_of}

abbrev pub is_told : ℕ → Bool
is_told byte = not (byte == 84)

abbrev pub marks_in : List ℕ → Tally
marks_in told = record {
  blocks = count_by (λ b. b == 58) told;
  matches = count_by (λ b. b == 126) told;
  versions = count_by (λ b. b == 98) told;
  refusals = count_by (λ b. b == 121) told;
}

one_more : (b : Bool) (n : ℕ) → cond b 1 0 + n ≡ one_if b n
one_more true n = omega arith
one_more false n = omega arith

count_first : (mark byte : ℕ) (told : List ℕ) → count_by (λ b. b == mark) (byte ∷ told) ≡ one_if (byte == mark) (count_by (λ b. b == mark) told)
count_first mark byte told = sum_by-cons (λ b. cond (b == mark) 1 0) byte told ∙ one_more (byte == mark) (count_by (λ b. b == mark) told)

marks_first : (byte : ℕ) (told : List ℕ) → marks_in (byte ∷ told) ≡ counted byte (marks_in told)
marks_first byte told =
    ap (λ n. record (marks_in (byte ∷ told)) { blocks = n }) (count_first 58 byte told)
    ∙ ap (λ n. record { blocks = (counted byte (marks_in told)).blocks; matches = n; versions = count_by (λ b. b == 98) (byte ∷ told); refusals = count_by (λ b. b == 121) (byte ∷ told) }) (count_first 126 byte told)
    ∙ ap (λ n. record { blocks = (counted byte (marks_in told)).blocks; matches = (counted byte (marks_in told)).matches; versions = n; refusals = count_by (λ b. b == 121) (byte ∷ told) }) (count_first 98 byte told)
    ∙ ap (λ n. record (counted byte (marks_in told)) { refusals = n }) (count_first 121 byte told)

by_first : (b : Bool) (byte : ℕ) (text : List ℕ) → marks_in (take_while is_told text) ≡ tally_of text
    → marks_in (cond (not b) (byte ∷ take_while is_told text) []) ≡ cond b nothing_counted (counted byte (tally_of text))
by_first true byte text same = refl
by_first false byte text same = marks_first byte (take_while is_told text) ∙ ap (counted byte) same

pub tally_is : (text : List ℕ) → marks_in (take_while is_told text) ≡ tally_of text
unfolding tally_of
tally_is [] = refl
tally_is (byte ∷ text) = ap marks_in (take_while-cons is_told byte text) ∙ by_first (byte == 84) byte text (tally_is text)
