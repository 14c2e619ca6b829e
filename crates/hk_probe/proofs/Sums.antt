-- Sums over lists that are joined, mapped, filtered or exchanged.
use Rattle.std.proofs.Common.{◌≡◌, ℕ, zero, suc, ◌+◌, ◌<◌, ◌≤◌, List, [], ◌∷◌, map, filter, flat_map, filter_map, sum_by, Option, Some, None, Bool, true, false, cond, refl, sym, ◌∙◌, ap, arith, zero-add, inl, inr}
use Rattle.std.proofs.lemmas.Bool.{cases_eq}
use Rattle.std.specs.List.{range_with_len, cons_option}
use Rattle.std.specs.Option.{option_to_list}
use Rattle.std.proofs.lemmas.List.Sums.{sum_by-cons, sum_by-append}

pub sum_by-same : {X : Type 0} (f g : X → ℕ) → ((x : X) → f x ≡ g x) → (xs : List X) → sum_by f xs ≡ sum_by g xs
sum_by-same f g same [] = refl
sum_by-same f g same (x ∷ xs) = omega (arith, sum_by-cons f x xs, sum_by-cons g x xs, same x, sum_by-same f g same xs)

pub sum_by-none : {X : Type 0} (xs : List X) → sum_by (λ x. 0) xs ≡ 0
sum_by-none [] = refl
sum_by-none {X} (x ∷ xs) = omega (arith, sum_by-cons (λ (x : X). 0) x xs, sum_by-none xs)

pub sum_by-plus : {X : Type 0} (f g : X → ℕ) (xs : List X) → sum_by (λ x. f x + g x) xs ≡ sum_by f xs + sum_by g xs
sum_by-plus f g [] = refl
sum_by-plus {X} f g (x ∷ xs) =
    omega (arith, sum_by-cons (λ (x : X). f x + g x) x xs, sum_by-cons f x xs, sum_by-cons g x xs, sum_by-plus f g xs)

pub sum_by-of_map : {X Y : Type 0} (f : Y → ℕ) (g : X → Y) (xs : List X) → sum_by f (map g xs) ≡ sum_by (λ x. f (g x)) xs
sum_by-of_map f g [] = refl
sum_by-of_map {X} f g (x ∷ xs) = omega (arith, sum_by-cons f (g x) (map g xs), sum_by-cons (λ (x : X). f (g x)) x xs, sum_by-of_map f g xs)

pub sum_by-of_flat_map : {X Y : Type 0} (f : Y → ℕ) (g : X → List Y) (xs : List X) → sum_by f (flat_map g xs) ≡ sum_by (λ x. sum_by f (g x)) xs
sum_by-of_flat_map f g [] = refl
sum_by-of_flat_map {X} f g (x ∷ xs) =
    omega (arith, sum_by-append f (g x) (flat_map g xs), sum_by-cons (λ (x : X). sum_by f (g x)) x xs, sum_by-of_flat_map f g xs)

pub sum_by-of_filter : {X : Type 0} (f : X → ℕ) (p : X → Bool) (xs : List X) → sum_by f (filter p xs) ≡ sum_by (λ x. cond (p x) (f x) 0) xs
sum_by-of_filter f p [] = refl
sum_by-of_filter {X} f p (x ∷ xs) =
    let rest = sum_by-of_filter f p xs in
    let here = sum_by-cons (λ (x : X). cond (p x) (f x) 0) x xs in
    elim (p x) as (λ b. sum_by f (cond b (x ∷ filter p xs) (filter p xs)) ≡ cond b (f x) 0 + sum_by (λ x. cond (p x) (f x) 0) xs) [
      | true ↦ omega (arith, sum_by-cons f x (filter p xs), rest)
      | false ↦ omega (arith, rest)
    ] ∙ sym here

-- what a function of an item adds, where there is one
abbrev pub of_option : {X : Type 0} → (X → ℕ) → Option X → ℕ
of_option f found = sum_by f (option_to_list found)

pub sum_by-of_filter_map : {X Y : Type 0} (f : Y → ℕ) (h : X → Option Y) (xs : List X) → sum_by f (filter_map h xs) ≡ sum_by (λ x. of_option f (h x)) xs
sum_by-of_filter_map f h [] = refl
sum_by-of_filter_map {X} f h (x ∷ xs) =
    let rest = sum_by-of_filter_map f h xs in
    let here = sum_by-cons (λ (x : X). of_option f (h x)) x xs in
    elim (h x) as (λ o. sum_by f (cons_option o (filter_map h xs)) ≡ of_option f o + sum_by (λ x. of_option f (h x)) xs) [
      | Some y ↦ sum_by-cons f y (filter_map h xs) ∙ omega (arith, rest, sum_by-cons f y [])
      | None ↦ omega (arith, rest)
    ] ∙ sym here

-- sums over two lists, in either order
pub sum_by-exchanged : {X Y : Type 0} (f : X → Y → ℕ) (xs : List X) (ys : List Y)
    → sum_by (λ x. sum_by (f x) ys) xs ≡ sum_by (λ y. sum_by (λ x. f x y) xs) ys
sum_by-exchanged f [] ys = sym (sum_by-none ys)
sum_by-exchanged {X} {Y} f (x ∷ xs) ys =
    sum_by-cons (λ (x : X). sum_by (f x) ys) x xs
    ∙ ap (λ n. sum_by (f x) ys + n) (sum_by-exchanged f xs ys)
    ∙ sym (sum_by-plus (f x) (λ (y : Y). sum_by (λ x. f x y) xs) ys)
    ∙ sum_by-same (λ (y : Y). f x y + sum_by (λ x. f x y) xs) (λ (y : Y). sum_by (λ x. f x y) (x ∷ xs)) (λ y. sym (sum_by-cons (λ (x : X). f x y) x xs)) ys

-- ---- sums over numbers in a row

-- the same terms, from another number on
pub sum_by-shifted : (f g : ℕ → ℕ) (a b n : ℕ) → ((i : ℕ) → i < n → f (a + i) ≡ g (b + i)) → sum_by f (range_with_len a n) ≡ sum_by g (range_with_len b n)
sum_by-shifted f g a b zero same = refl
sum_by-shifted f g a b (suc n) same =
    let start : (k : ℕ) → k ≡ k + 0 = λ k. omega arith in
    let next : (k i : ℕ) → k + 1 + i ≡ k + (i + 1) = λ k i. omega arith in
    let first : f a ≡ g b = ap f (start a) ∙ same 0 (omega arith) ∙ sym (ap g (start b)) in
    let rest = sum_by-shifted f g (a + 1) (b + 1) n (λ i low. ap f (next a i) ∙ same (i + 1) (omega arith) ∙ sym (ap g (next b i))) in
    omega (arith, first, rest, sum_by-cons f a (range_with_len (a + 1) n), sum_by-cons g b (range_with_len (b + 1) n))

pub sum_by-joined : (f : ℕ → ℕ) (a m n : ℕ) → sum_by f (range_with_len a (m + n)) ≡ sum_by f (range_with_len a m) + sum_by f (range_with_len (a + m) n)
sum_by-joined f a zero n =
    let none : zero + n ≡ n = omega arith in
    let here : a ≡ a + zero = omega arith in
    ap (λ k. sum_by f (range_with_len a k)) none ∙ ap (λ k. sum_by f (range_with_len k n)) here ∙ sym (zero-add _)
sum_by-joined f a (suc m) n =
    let more : suc m + n ≡ suc (m + n) = omega arith in
    let same : a + 1 + m ≡ a + suc m = omega arith in
    let rest = sum_by-joined f (a + 1) m n ∙ ap (λ k. sum_by f (range_with_len (a + 1) m) + sum_by f (range_with_len k n)) same in
    ap (λ k. sum_by f (range_with_len a k)) more
    ∙ omega (arith, rest, sum_by-cons f a (range_with_len (a + 1) (m + n)), sum_by-cons f a (range_with_len (a + 1) m))

-- no number of these has a term
pub sum_by-nowhere : (f : ℕ → ℕ) (a n : ℕ) → ((i : ℕ) → a ≤ i → i < a + n → f i ≡ 0) → sum_by f (range_with_len a n) ≡ 0
sum_by-nowhere f a n none = sum_by-shifted f (λ i. 0) a a n (λ i low. none (a + i) (omega arith) (omega arith)) ∙ sum_by-none (range_with_len a n)

-- one number of these has a term
pub sum_by-at_one : (f : ℕ → ℕ) (a n d : ℕ) → a ≤ d → d < a + n → ((i : ℕ) → (i ≡ d → ⊥) → f i ≡ 0) → sum_by f (range_with_len a n) ≡ f d
sum_by-at_one f a zero d low high others = absurd (omega (arith, low, high))
sum_by-at_one f a (suc n) d low high others =
    let here = sum_by-cons f a (range_with_len (a + 1) n) in
    elim (cases_eq a d) [
      | inl same ↦ omega (arith, here, ap f same, sum_by-nowhere f (a + 1) n (λ i above below. others i (λ is. omega arith)))
      | inr other ↦ omega (arith, here, others a other, sum_by-at_one f (a + 1) n d (omega arith) (omega arith) others)
    ]
