-- Numbers in decimal digits, and what may follow them.
use Rattle.std.proofs.Common.{◌≡◌, ℕ, suc, ◌+◌, ◌*◌, ◌^◌, ◌<◌, ◌≤◌, ◌/◌, ◌%◌, ◌⊎◌, inl, inr, List, [], ◌∷◌, ◌++◌, length, take, get_or, refl, sym, ◌∙◌, ap, subst, append_assoc, arith, eq-zero-or-pos}
use Rattle.std.specs.Fmt.{decimal}
use Rattle.std.specs.Char.{digit_value}
use Rattle.std.specs.Str.Parse.{digits_value}
use Rattle.std.proofs.lemmas.Fmt.{decimal_by_steps, decimal_digit, decimal_step, decimal_injective, decimal_is_IsNumeral, decimal_nonempty, first_decimal}
use Rattle.std.proofs.lemmas.Int.Digits.{digits_value_push}
use Rattle.std.proofs.lemmas.Str.Parse.{digits_value-take-le}
use Rattle.std.proofs.Math.Seq.{take-append_seam}
use Rattle.std.proofs.lemmas.Bool.Decides.{nat_tests}
use Rattle.hk_report.specs.LineReading.{IsDigit, IsCut}

abbrev pub AreDigits : List ℕ → Type 0
AreDigits [] = Unit {0}
AreDigits (c ∷ cs) = IsDigit c × AreDigits cs

are_digits-append : (a b : List ℕ) → AreDigits a → AreDigits b → AreDigits (a ++ b)
are_digits-append [] b p q = q
are_digits-append (c ∷ a) b p q = (p.0, are_digits-append a b p.1 q)

one_digit : (d : ℕ) → d < 10 → AreDigits ((48 + d) ∷ [])
one_digit d h = ((omega arith, omega arith), tt)

pub decimal_digits : (n : ℕ) → n < 2 ^ 64 → AreDigits (decimal n)
decimal_digits n h =
    decimal_by_steps (λ m ds. AreDigits ds) (λ m small. one_digit m small)
    (λ m ds big front. are_digits-append ds ((48 + m % 10) ∷ []) front (one_digit (m % 10) (omega arith))) n h

pub heads : (c d : ℕ) (a b : List ℕ) → c ∷ a ≡ d ∷ b → c ≡ d
heads c d a b e = cc

pub tails : (c d : ℕ) (a b : List ℕ) → c ∷ a ≡ d ∷ b → a ≡ b
tails c d a b e = cc

-- digits that begin what begins with other digits and is cut behind those: they begin those digits
front_of_digits : (ds b more r : List ℕ) → AreDigits ds → IsCut r → ds ++ more ≡ b ++ r → (x : List ℕ) × (b ≡ ds ++ x)
front_of_digits [] b more r p cut e = (b, refl)
front_of_digits (c ∷ ds) [] more r p cut e = absurd (subst IsCut (sym e) cut p.0)
front_of_digits (c ∷ ds) (d ∷ b) more r p cut e =
    let same : c ≡ d = heads c d (ds ++ more) (b ++ r) e in
    let rest : (x : List ℕ) × (b ≡ ds ++ x) = front_of_digits ds b more r p.1 cut (tails c d (ds ++ more) (b ++ r) e) in
    (rest.0, let tail : b ≡ ds ++ rest.0 = rest.1 in cc)

-- two runs of digits, each cut behind
same_digits : (a b r s : List ℕ) → AreDigits a → AreDigits b → IsCut r → IsCut s → a ++ r ≡ b ++ s → (a ≡ b) × (r ≡ s)
same_digits [] [] r s p q cr cs e = (refl, e)
same_digits [] (d ∷ b) r s p q cr cs e = absurd (subst IsCut e cr q.0)
same_digits (c ∷ a) [] r s p q cr cs e = absurd (subst IsCut (sym e) cs p.0)
same_digits (c ∷ a) (d ∷ b) r s p q cr cs e =
    let same : c ≡ d = heads c d (a ++ r) (b ++ s) e in
    let rest : (a ≡ b) × (r ≡ s) = same_digits a b r s p.1 q.1 cr cs (tails c d (a ++ r) (b ++ s) e) in
    (let tail : a ≡ b = rest.0 in cc, rest.1)

digits_not_cut : (ds r : List ℕ) → AreDigits ds → 0 < length ds → IsCut (ds ++ r) → ⊥
digits_not_cut [] r p long cut = absurd (omega arith)
digits_not_cut (c ∷ ds) r p long cut = cut p.0

-- a number and what follows it, each is known from the text
pub split_number : (m n : ℕ) (r s : List ℕ) → m < 2 ^ 64 → n < 2 ^ 64 → IsCut r → IsCut s → decimal m ++ r ≡ decimal n ++ s → (m ≡ n) × (r ≡ s)
split_number m n r s small small' cr cs e =
    let both : (decimal m ≡ decimal n) × (r ≡ s) = same_digits (decimal m) (decimal n) r s (decimal_digits m small) (decimal_digits n small') cr cs e in
    (decimal_injective m n small small' both.0, both.1)

-- one more digit behind a number that isn't 0
pub decimal_grows : (n d : ℕ) → 0 < n → d < 10 → 10 * n + d < 2 ^ 64 → decimal (10 * n + d) ≡ decimal n ++ (48 + d) ∷ []
decimal_grows n d h small fits =
    let front : (10 * n + d) / 10 ≡ n = omega arith in
    let last : (10 * n + d) % 10 ≡ d = omega arith in
    decimal_step (10 * n + d) (omega arith) fits ∙ rw (front, last) refl

value_of_digit : (d : ℕ) → d < 10 → digit_value (48 + d) ≡ d
value_of_digit d h = grind (arith, nat_tests)

-- what a number begins with is no greater
value_of_front : (m : ℕ) (ds x : List ℕ) → m < 2 ^ 64 → decimal m ≡ ds ++ x → digits_value 10 ds ≤ m
value_of_front m ds x small e =
    let a : digits_value 10 (take (length ds) (decimal m)) ≤ digits_value 10 (decimal m) = digits_value-take-le 10 (decimal m) (length ds) (omega arith) in
    let front : take (length ds) (decimal m) ≡ ds = ap (take (length ds)) e ∙ take-append_seam ds x in
    let value : digits_value 10 (decimal m) ≡ m = (decimal_is_IsNumeral m small).1 in
    subst (λ v. digits_value 10 ds ≤ v) value (subst (λ ys. digits_value 10 ys ≤ digits_value 10 (decimal m)) front a)

-- no number of at most `most` goes on with a digit that is one too many
pub digit_too_many : (most n d m : ℕ) (more r : List ℕ) → m ≤ most → most < 2 ^ 64 → n ≤ most → d < 10 → (n ≡ 0) ⊎ (most < 10 * n + d) → IsCut r
    → decimal n ++ ((48 + d) ∷ more) ≡ decimal m ++ r → ⊥
digit_too_many most n d m more r below fits small digit why cut e =
    let ds : List ℕ = decimal n ++ ((48 + d) ∷ []) in
    let regrouped : ds ++ more ≡ decimal m ++ r = append_assoc (decimal n) ((48 + d) ∷ []) more ∙ e in
    let digits : AreDigits ds = are_digits-append (decimal n) ((48 + d) ∷ []) (decimal_digits n (omega arith)) (one_digit d digit) in
    let f : (x : List ℕ) × (decimal m ≡ ds ++ x) = front_of_digits ds (decimal m) more r digits cut regrouped in
    elim why [
      | inl zero ↦
          let whole : decimal m ≡ 48 ∷ (48 + d) ∷ f.0 = f.1 ∙ ap (λ k. decimal k ++ ((48 + d) ∷ []) ++ f.0) zero ∙ ap (λ t. t ++ ((48 + d) ∷ []) ++ f.0) (decimal_digit 0 (omega arith)) in
          elim (eq-zero-or-pos m) [
            | inl none ↦
                let one : length (decimal m) ≡ 1 = ap (λ k. length (decimal k)) none ∙ ap length (decimal_digit 0 (omega arith)) in
                let more : length (decimal m) ≡ suc (suc (length f.0)) = ap length whole in
                omega arith
            | inr some ↦
                let first : 48 < get_or (decimal m) 0 0 = first_decimal m some (omega arith) in
                let false : 48 < 48 = subst (λ t. 48 < get_or t 0 0) whole first in
                omega arith
          ]
      | inr over ↦
          let value : digits_value 10 ds ≤ m = value_of_front m ds f.0 (omega arith) f.1 in
          let told : digits_value 10 ds ≡ n * 10 + d =
          digits_value_push 10 (decimal n) (48 + d) ∙ ap (λ v. v * 10 + digit_value (48 + d)) (decimal_is_IsNumeral n (omega arith)).1 ∙ ap (λ v. n * 10 + v) (value_of_digit d digit) in
          let reached : n * 10 + d ≤ m = subst (λ v. v ≤ m) told value in
          omega arith
    ]

-- a number begins with a digit
pub not_cut : (n : ℕ) (r : List ℕ) → n < 2 ^ 64 → IsCut (decimal n ++ r) → ⊥
not_cut n r small cut = digits_not_cut (decimal n) r (decimal_digits n small) (decimal_nonempty n small) cut
