-- A mask has no more bits than flips: as many differences come before one as are less in a number that tells them apart.
use Rattle.std.proofs.Common.{◌≡◌, ◌∙◌, ℕ, zero, suc, ◌+◌, ◌*◌, ◌%◌, ◌<◌, ◌≤◌, ◌==◌, ◌&&◌, ◌||◌, nat_lt, nat_abs, ℤ, List, [], ◌∷◌, length, Bool, true, false, cond, ◌⊎◌, inl, inr, refl, sym, ap, arith}
use Rattle.std.specs.Int.RustNames.{count_ones}
use Rattle.std.specs.List.{enumerate_from, count_by, sum_by}
use native.Mathlib.Nat.{mul_comm}
use Rattle.std.proofs.lemmas.Bool.{cases_eq, cases_lt}
use Rattle.std.proofs.lemmas.Bool.Decides.{nat_tests}
use Rattle.std.proofs.lemmas.List.Sums.{sum_by-cons}
use Rattle.std.proofs.lemmas.Nat.{mul-add-lt, mod-mul-add}
use Rattle.hk_spec_sound.specs.Prints.{comes_before, mask_of}
use Rattle.hk_weak.proofs.Bits.{count_ones-number_of_bits}
use Rattle.hk_weak.proofs.WeakBits.{rank_of, mask_of-weak_bits}

-- ---- counts

bits_split : (a b c : Bool) → (a ≡ true → (b ≡ true) ⊎ (c ≡ true)) → cond a 1 0 ≤ cond b 1 0 + cond c 1 0
bits_split false b c one = omega arith
bits_split true b c one = elim (one refl) as (λ _. 1 ≤ cond b 1 0 + cond c 1 0) [
  | inl is ↦ rw is (omega arith)
  | inr is ↦ rw is (omega arith)
]

count_by-cons : {X : Type 0} (p : X → Bool) (x : X) (xs : List X) → count_by p (x ∷ xs) ≡ cond (p x) 1 0 + count_by p xs
count_by-cons p x xs = sum_by-cons (λ y. cond (p y) 1 0) x xs

-- what passes one test passes one of two others
counts_split : {X : Type 0} (p q r : X → Bool) → ((x : X) → p x ≡ true → (q x ≡ true) ⊎ (r x ≡ true))
    → (xs : List X) → count_by p xs ≤ count_by q xs + count_by r xs
counts_split p q r one [] = omega arith
counts_split p q r one (x ∷ xs) =
    omega (arith, count_by-cons p x xs, count_by-cons q x xs, count_by-cons r x xs, bits_split (p x) (q x) (r x) (one x), counts_split p q r one xs)

-- what passes one test passes another
counts_within : {X : Type 0} (p q : X → Bool) → ((x : X) → p x ≡ true → q x ≡ true) → (xs : List X) → count_by p xs ≤ count_by q xs
counts_within p q passes [] = omega arith
counts_within p q passes (x ∷ xs) =
    omega (arith, count_by-cons p x xs, count_by-cons q x xs, bits_split (p x) (q x) false (λ is. inl (passes x is)), counts_within p q passes xs)

both_pass : (a limit : ℕ) (b : Bool) → a < limit → b ≡ true → (nat_lt a limit && b) ≡ true
both_pass a limit b low is = grind (arith, nat_tests)

-- a bound over the sum is over each
counts_below : {X : Type 0} (f : X → ℕ) (p : X → Bool) (xs : List X) (limit : ℕ) → sum_by f xs < limit
    → count_by p xs ≤ count_by (λ x. nat_lt (f x) limit && p x) xs
counts_below f p [] limit low = omega arith
counts_below {X} f p (x ∷ xs) limit low =
    let q : X → Bool = λ y. nat_lt (f y) limit && p y in
    let sum = sum_by-cons f x xs in
    let here : f x < limit = omega arith in
    omega (arith, count_by-cons p x xs, count_by-cons q x xs, bits_split (p x) (q x) false (λ is. inl (both_pass (f x) limit (p x) here is)), counts_below f p xs limit (omega arith))

not_passed : (b : Bool) → (b ≡ true → ⊥) → ◌≡◌ {A = ℕ} (cond b 1 0) 0
not_passed false fails = refl
not_passed true fails = absurd (fails refl)

once : (b : Bool) (rest : ℕ) → rest ≤ 1 → (b ≡ true → rest ≡ 0) → cond b 1 0 + rest ≤ 1
once false rest few none = omega arith
once true rest few none = omega (arith, none refl)

equal : (a b : ℕ) → (a == b) ≡ true → a ≡ b
equal a b is = grind (arith, nat_tests)

below_or_at : (a b : ℕ) → nat_lt a (b + 1) ≡ true → (nat_lt a b ≡ true) ⊎ ((a == b) ≡ true)
below_or_at a b is = elim (cases_eq a b) as (λ _. (nat_lt a b ≡ true) ⊎ ((a == b) ≡ true)) [
  | inl same ↦ inr (grind (arith, nat_tests))
  | inr other ↦ inl (grind (arith, nat_tests))
]

-- ---- counts over items with their places

same_counts : (p q : ℕ × ℤ → Bool) (n : ℕ) → ((e : ℕ × ℤ) → e.0 < n → p e ≡ q e)
    → (a : ℕ) (zs : List ℤ) → a + length zs ≤ n → count_by p (enumerate_from a zs) ≡ count_by q (enumerate_from a zs)
same_counts p q n same a [] within = refl
same_counts p q n same a (z ∷ zs) within =
    let here : p (a, z) ≡ q (a, z) = same (a, z) (omega arith) in
    let rest = same_counts p q n same (a + 1) zs (omega arith) in
    count_by-cons p (a, z) (enumerate_from (a + 1) zs) ∙ ap (λ b. cond b 1 0 + count_by p (enumerate_from (a + 1) zs)) here
    ∙ ap (λ k. cond (q (a, z)) 1 0 + k) rest ∙ sym (count_by-cons q (a, z) (enumerate_from (a + 1) zs))

-- a test that only one place can pass
none_later : (p : ℕ × ℤ → Bool) (n j : ℕ) → ((e : ℕ × ℤ) → e.0 < n → p e ≡ true → e.0 ≡ j)
    → (a : ℕ) (zs : List ℤ) → a + length zs ≤ n → j < a → count_by p (enumerate_from a zs) ≡ 0
none_later p n j one a [] within later = refl
none_later p n j one a (z ∷ zs) within later =
    let fails : ◌≡◌ {A = ℕ} (cond (p (a, z)) 1 0) 0 = not_passed (p (a, z)) (λ is. omega (arith, one (a, z) (omega arith) is)) in
    omega (arith, count_by-cons p (a, z) (enumerate_from (a + 1) zs), none_later p n j one (a + 1) zs (omega arith) (omega arith))

at_most_once : (p : ℕ × ℤ → Bool) (n j : ℕ) → ((e : ℕ × ℤ) → e.0 < n → p e ≡ true → e.0 ≡ j)
    → (a : ℕ) (zs : List ℤ) → a + length zs ≤ n → count_by p (enumerate_from a zs) ≤ 1
at_most_once p n j one a [] within = omega arith
at_most_once p n j one a (z ∷ zs) within =
    let rest = count_by p (enumerate_from (a + 1) zs) in
    let few = at_most_once p n j one (a + 1) zs (omega arith) in
    let none : p (a, z) ≡ true → rest ≡ 0 = λ is. none_later p n j one (a + 1) zs (omega arith) (omega (arith, one (a, z) (omega arith) is)) in
    omega (arith, count_by-cons p (a, z) (enumerate_from (a + 1) zs), once (p (a, z)) rest few none)

-- ---- one number for magnitude and place

abbrev key : ℕ → ℕ × ℤ → ℕ
key n e = nat_abs e.1 * n + e.0

by_parts : (a b m k p q : ℕ) → (a < b → p + m < q + k) → (b < a → q + k < p + m) → (a ≡ b → p ≡ q)
    → (nat_lt a b || ((a == b) && nat_lt m k)) ≡ nat_lt (p + m) (q + k)
by_parts a b m k p q less more same = grind (arith, nat_tests)

greater_key : (a b m k n : ℕ) → m < n → a < b → a * n + m < b * n + k
greater_key a b m k n inside less = omega (arith, mul-add-lt a n m b less inside, mul_comm n b)

comes_before-key : (n : ℕ) (d e : ℕ × ℤ) → d.0 < n → e.0 < n → comes_before d e ≡ nat_lt (key n d) (key n e)
comes_before-key n d e d_inside e_inside =
    let a = nat_abs d.1 in
    let b = nat_abs e.1 in
    by_parts a b d.0 e.0 (a * n) (b * n) (greater_key a b d.0 e.0 n d_inside) (greater_key b a e.0 d.0 n e_inside) (ap (λ x. x * n))

-- how many keys are below a number
abbrev keys_below : ℕ → List ℤ → ℕ → ℕ
keys_below n ds limit = count_by (λ e. nat_lt (key n e) limit) (enumerate_from 0 ds)

rank_of-key : (n : ℕ) (ds : List ℤ) (e : ℕ × ℤ) → length ds ≡ n → e.0 < n → rank_of e ds ≡ keys_below n ds (key n e)
rank_of-key n ds e all inside =
    same_counts (λ d. comes_before d e) (λ d. nat_lt (key n d) (key n e)) n (λ d low. comes_before-key n d e low inside) 0 ds (omega arith)

one_key_more : (n : ℕ) (ds : List ℤ) (limit : ℕ) → length ds ≡ n → keys_below n ds (limit + 1) ≤ keys_below n ds limit + 1
one_key_more n ds limit all =
    let at_limit : ℕ × ℤ → Bool = λ e. key n e == limit in
    let once_there = at_most_once at_limit n (limit % n)
    (λ e low is. sym (mod-mul-add (nat_abs e.1) n e.0 low) ∙ ap (λ k. k % n) (equal (key n e) limit is)) 0 ds (omega arith) in
    let split = counts_split (λ e. nat_lt (key n e) (limit + 1)) (λ e. nat_lt (key n e) limit) at_limit
    (λ e is. below_or_at (key n e) limit is) (enumerate_from 0 ds) in
    omega arith

nothing_below : (a : ℕ) (c : Bool) → (nat_lt a 0 && c) ≡ true → false ≡ true
nothing_below a c is = grind (arith, nat_tests)

none_passes : {X : Type 0} (xs : List X) → count_by (λ x. false) xs ≡ 0
none_passes [] = refl
none_passes (x ∷ xs) = omega (arith, count_by-cons (λ y. false) x xs, none_passes xs)

below_unless : (a limit flips : ℕ) (f : ℕ → ℕ) → flips ≤ f limit → (nat_lt a (suc limit) && nat_lt (f a) flips) ≡ true → (nat_lt a limit && nat_lt (f a) flips) ≡ true
below_unless a limit flips f enough is = elim (cases_eq a limit) as (λ _. (nat_lt a limit && nat_lt (f a) flips) ≡ true) [
  | inl same ↦ let at : f a ≡ f limit = ap f same in grind (arith, nat_tests)
  | inr other ↦ grind (arith, nat_tests)
]

first_passes : (a limit : ℕ) (c : Bool) → (nat_lt a (suc limit) && c) ≡ true → nat_lt a (limit + 1) ≡ true
first_passes a limit c is = grind (arith, nat_tests)

-- of the differences with a key below a limit
few_below : (n flips : ℕ) (ds : List ℤ) (limit : ℕ) → length ds ≡ n
    → count_by (λ e. nat_lt (key n e) limit && nat_lt (keys_below n ds (key n e)) flips) (enumerate_from 0 ds) ≤ flips
few_below n flips ds zero all =
    omega (arith, counts_within (λ e. nat_lt (key n e) 0 && nat_lt (keys_below n ds (key n e)) flips) (λ e. false) (λ e is. nothing_below (key n e) (nat_lt (keys_below n ds (key n e)) flips) is) (enumerate_from 0 ds), none_passes (enumerate_from 0 ds))
few_below n flips ds (suc limit) all =
    let L = enumerate_from 0 ds in
    let p : ℕ → ℕ × ℤ → Bool = λ b e. nat_lt (key n e) b && nat_lt (keys_below n ds (key n e)) flips in
    elim (cases_lt (keys_below n ds limit) flips) as (λ _. count_by (p (suc limit)) L ≤ flips) [
      | inr enough ↦ omega (arith, counts_within (p (suc limit)) (p limit) (λ e is. below_unless (key n e) limit flips (keys_below n ds) enough is) L, few_below n flips ds limit all)
      | inl room ↦ omega (arith, counts_within (p (suc limit)) (λ e. nat_lt (key n e) (limit + 1)) (λ e is. first_passes (key n e) limit (nat_lt (keys_below n ds (key n e)) flips) is) L, one_key_more n ds limit all)
    ]

pub count_ones-mask_of : (flips : ℕ) (ds : List ℤ) → count_ones (mask_of flips ds) ≤ flips
count_ones-mask_of flips ds =
    let n = length ds in
    let L = enumerate_from 0 ds in
    let weak : ℕ × ℤ → Bool = λ e. nat_lt (rank_of e ds) flips in
    let by_key : ℕ × ℤ → Bool = λ e. nat_lt (keys_below n ds (key n e)) flips in
    let limit = sum_by (key n) L + 1 in
    let marked = ap count_ones (mask_of-weak_bits flips ds) ∙ count_ones-number_of_bits weak L in
    let same = same_counts weak by_key n (λ e low. ap (λ r. nat_lt r flips) (rank_of-key n ds e refl low)) 0 ds (omega arith) in
    omega (arith, counts_below (key n) by_key L limit (omega arith), few_below n flips ds limit refl)
