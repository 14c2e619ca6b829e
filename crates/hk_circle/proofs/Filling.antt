-- Tables with one number more.
use Rattle.std.proofs.Common.{◌≡◌, ℕ, zero, suc, ℤ, ◌+◌, ◌*◌, ◌/◌, ◌^◌, ◌<◌, ◌≤◌, pos, nat_abs, List, [], ◌∷◌, ◌++◌, length, get_or, ap, sym, subst, ◌∙◌, arith, inl, inr, refl, mul-le-mul_right}
use Rattle.std.proofs.Math.Nat.{pow-le-pow_right, div-mul-le_self}
use Rattle.std.proofs.Math.Seq.{get_or-append_seam}
use Rattle.std.proofs.lemmas.Bool.{cases_eq}
use Rattle.std.proofs.lemmas.List.{length-append, get_or_append_left}
use Rattle.std.proofs.lemmas.List.Elements.{All-append}
use Rattle.hk_spec_sound.specs.Spectrum.{AreBelow}
use Rattle.hk_circle.specs.Tables.{IsTable, HasStages}

one_below : (x : ℤ) → nat_abs x ≤ 32768 → AreBelow 32769 (x ∷ [])
one_below x within zero d inside = omega (arith, within)
one_below x within (suc k) d inside = absurd (omega (arith, inside))

pub length-more : (xs : List ℤ) (x : ℤ) → length (xs ++ x ∷ []) ≡ length xs + 1
length-more xs x = length-append xs (x ∷ [])

-- the number behind the table
at_end : (xs : List ℤ) (x : ℤ) (n : ℕ) → length xs ≡ n → get_or (xs ++ x ∷ []) n (pos 0) ≡ x
at_end xs x n len = ap (λ m. get_or (xs ++ x ∷ []) m (pos 0)) (sym len) ∙ get_or-append_seam xs x [] (pos 0)

pub more_below : (xs : List ℤ) (x : ℤ) → AreBelow 32769 xs → nat_abs x ≤ 32768 → AreBelow 32769 (xs ++ x ∷ [])
more_below xs x below within = All-append (λ z. nat_abs z < 32769) xs (x ∷ []) below (one_below x within)

pub table_more : (n : ℕ) (f : ℕ → ℤ) (xs : List ℤ) (x : ℤ) → IsTable n f xs → x ≡ f n → nat_abs x ≤ 32768 → IsTable (n + 1) f (xs ++ x ∷ [])
table_more n f xs x table is within = record {
  len = length-more xs x ∙ omega (arith, table.len);
  each = λ k inside. elim (cases_eq k n) [
    | inl same ↦ ap (λ m. get_or (xs ++ x ∷ []) m (pos 0)) same ∙ at_end xs x n table.len ∙ is ∙ sym (ap f same)
    | inr other ↦ get_or_append_left xs (x ∷ []) (pos 0) k (omega (arith, inside, other, table.len)) ∙ table.each k (omega (arith, inside, other))
  ];
  below = more_below xs x table.below within;
}

-- All numbers of the stages before one, and the first of its own.
pub record HasBegun (before count : ℕ) (f : ℕ → ℤ) (items : List ℤ) : Type 0 where
  pub len : length items ≡ 2 ^ before + count
  pub each : (s k : ℕ) → s < before → k < 2 ^ s → get_or items (2 ^ s + k) (pos 0) ≡ f (k * (1024 / 2 ^ s))
  pub begun : (k : ℕ) → k < count → get_or items (2 ^ before + k) (pos 0) ≡ f (k * (1024 / 2 ^ before))
  pub below : AreBelow 32769 items

pub begins : (before : ℕ) (f : ℕ → ℤ) (items : List ℤ) → HasStages before f items → HasBegun before 0 f items
begins before f items has = record {
  len = omega (arith, has.len);
  each = has.each;
  begun = λ k none. absurd (omega (arith, none));
  below = has.below;
}

pub doubled : (s : ℕ) → 2 ^ (s + 1) ≡ 2 ^ s + 2 ^ s
doubled s = let next : s + 1 ≡ suc s = omega arith in let power : 2 ^ suc s ≡ 2 * 2 ^ s = omega arith in omega (arith, power, ap (λ n. 2 ^ n) next)

-- the places of a stage stand before those of a later one
earlier : (s before k : ℕ) → s < before → k < 2 ^ s → 2 ^ s + k < 2 ^ before
earlier s before k less inside =
    let power : 2 ^ (s + 1) ≤ 2 ^ before = pow-le-pow_right {n = 2} (omega arith) (omega (arith, less)) in
    omega (arith, power, doubled s, inside)

pub begun_more : (before count : ℕ) (f : ℕ → ℤ) (items : List ℤ) (x : ℤ) → HasBegun before count f items
    → x ≡ f (count * (1024 / 2 ^ before)) → nat_abs x ≤ 32768 → HasBegun before (count + 1) f (items ++ x ∷ [])
begun_more before count f items x has is within = record {
  len = length-more items x ∙ omega (arith, has.len);
  each = λ s k less inside.
      get_or_append_left items (x ∷ []) (pos 0) (2 ^ s + k) (omega (arith, has.len, earlier s before k less inside)) ∙ has.each s k less inside;
  begun = λ k inside. elim (cases_eq k count) [
    | inl same ↦
        ap (λ m. get_or (items ++ x ∷ []) (2 ^ before + m) (pos 0)) same ∙ at_end items x (2 ^ before + count) has.len ∙ is
        ∙ sym (ap (λ m. f (m * (1024 / 2 ^ before))) same)
    | inr other ↦
        get_or_append_left items (x ∷ []) (pos 0) (2 ^ before + k) (omega (arith, inside, other, has.len)) ∙ has.begun k (omega (arith, inside, other))
  ];
  below = more_below items x has.below within;
}

pub begun_all : (before : ℕ) (f : ℕ → ℤ) (items : List ℤ) → HasBegun before (2 ^ before) f items → HasStages (before + 1) f items
begun_all before f items has = record {
  len = has.len ∙ sym (doubled before);
  each = λ s k less inside. elim (cases_eq s before) [
    | inl same ↦
        ap (λ n. get_or items (2 ^ n + k) (pos 0)) same ∙ has.begun k (subst (λ n. k < 2 ^ n) same inside)
        ∙ sym (ap (λ n. f (k * (1024 / 2 ^ n))) same)
    | inr other ↦ has.each s k (omega (arith, less, other)) inside
  ];
  below = has.below;
}

-- before the first stage there is place 0 alone
pub no_stages : (f : ℕ → ℤ) → HasStages 0 f (pos 0 ∷ [])
no_stages f = record {
  len = refl;
  each = λ s k less inside. absurd (omega (arith, less));
  below = one_below (pos 0) (omega arith);
}

-- each item of a stage is turned by less than half of the circle
pub place_within : (k half : ℕ) → k < half → k * (1024 / half) < 2048
place_within k half less =
    let whole : 1024 / half * half ≤ 1024 = div-mul-le_self 1024 half in
    let part : k * (1024 / half) ≤ half * (1024 / half) = mul-le-mul_right (1024 / half) (omega (arith, less)) in
    let turned : half * (1024 / half) ≡ 1024 / half * half = omega arith in
    omega (arith, whole, part, turned)
