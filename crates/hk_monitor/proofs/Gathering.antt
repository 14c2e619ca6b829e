-- A third list for two.
use Rattle.std.proofs.Common.{◌≡◌, ◌≤◌, ◌<◌, ℕ, zero, suc, ◌+◌, Some, List, [], ◌∷◌, ◌++◌, length, take, drop, slice_get, slice_index_or, slice_set, refl, sym, ◌∙◌, ap, subst, arith, inl, inr}
use Rattle.std.proofs.lemmas.Bool.{cases_eq}
use Rattle.std.proofs.lemmas.List.{get_or-set_same, get_or-set_other, take_at}
use Rattle.hk_spec_monitor.proofs.Legal.{some_of}
use Rattle.hk_spec_monitor.proofs.Logs.{past_end}
use Rattle.hk_loop.specs.Rows.{Each}
use Rattle.hk_monitor.specs.Rows.{EachOf}

-- inside a list something stands
pub entry : {A : Type 0} (xs : List A) (i : ℕ) → i < length xs → (x : A) × (slice_get xs i ≡ Some x)
entry [] i inside = absurd (omega (arith, inside))
entry (y ∷ ys) zero inside = (y, refl)
entry (y ∷ ys) (suc i) inside = entry ys i (omega (arith, inside))

module _ {A B : Type 0} (P : A → A → B → Type 0) where
  each_cons : (x y : A) (z : B) (xs ys : List A) (zs : List B) → P x y z → EachOf P xs ys zs
      → (i : ℕ) (a b : A) (other : B) → slice_get (x ∷ xs) i ≡ Some a → slice_get (y ∷ ys) i ≡ Some b → slice_get (z ∷ zs) i ≡ Some other → P a b other
  each_cons x y z xs ys zs first rest zero a b other at_a at_b at_other =
      subst (λ o. P a b o) (some_of z other at_other) (subst (λ n. P a n z) (some_of y b at_b) (subst (λ m. P m y z) (some_of x a at_a) first))
  each_cons x y z xs ys zs first rest (suc i) a b other at_a at_b at_other = rest.each i a b other at_a at_b at_other

  pub gather : (xs ys : List A) → length ys ≡ length xs → ((i : ℕ) (a b : A) → slice_get xs i ≡ Some a → slice_get ys i ≡ Some b → (z : B) × P a b z)
      → (zs : List B) × EachOf P xs ys zs
  gather [] ys as_many each = ([], record { as_many = as_many; one_each = refl; each = λ i a b other at_a at_b at_other. past_end a (P a b other) at_a })
  gather (x ∷ xs) [] as_many each = absurd (omega (arith, as_many))
  gather (x ∷ xs) (y ∷ ys) as_many each =
      let first = each 0 x y refl refl in
      let rest = gather xs ys (omega (arith, as_many)) (λ i a b at_a at_b. each (suc i) a b at_a at_b) in (
        first.0 ∷ rest.0,
        record {
          as_many = as_many;
          one_each = ap suc rest.1.one_each;
          each = each_cons x y first.0 xs ys rest.0 first.1 rest.1;
        },
      )

module _ {A : Type 0} (P : A → A → Type 0) (firsts xs : List A) (w : ℕ) (y : A) (inside : w < length xs) (now : (d : A) → P (slice_index_or firsts w d) y) where
  -- those below w are done, and then that at w too
  pub done_more : ((i : ℕ) (d : A) → i < w → P (slice_index_or firsts i d) (slice_index_or xs i d))
      → (i : ℕ) (d : A) → i < w + 1 → P (slice_index_or firsts i d) (slice_index_or (slice_set xs w y) i d)
  done_more done i d low = elim (cases_eq i w) [
    | inl is ↦ subst (λ (j : ℕ). P (slice_index_or firsts j d) (slice_index_or (slice_set xs w y) j d)) (sym is) (subst (P (slice_index_or firsts w d)) (sym (get_or-set_same xs w y d inside)) (now d))
    | inr other ↦ subst (P (slice_index_or firsts i d)) (sym (get_or-set_other xs w i y d other)) (done i d (omega (arith, low, other)))
  ]

  -- those above it are as they were
  pub left_above : ((i : ℕ) (d : A) → w ≤ i → slice_index_or xs i d ≡ slice_index_or firsts i d)
      → (i : ℕ) (d : A) → w + 1 ≤ i → slice_index_or (slice_set xs w y) i d ≡ slice_index_or firsts i d
  left_above left i d high = get_or-set_other xs w i y d (λ is. absurd (omega (arith, high, is))) ∙ left i d (omega (arith, high))

-- what a slice of a whole list was promised, and what is left where all of a list was written
pub each_of_slice : {A : Type 0} (P : A → A → Type 0) (slice xs ys : List A) → slice ≡ xs → length ys ≡ length slice
    → ((i : ℕ) (d : A) → i < length slice → P (slice_index_or slice i d) (slice_index_or ys i d)) → Each P xs ys
each_of_slice P slice xs ys same as_many each = subst (λ l. Each P l ys) same (record { as_many = as_many; each = each })

pub each_of_written : {A : Type 0} (P : A → A → Type 0) (xs ys zs : List A) (n : ℕ) → length ys ≡ n → Each P (take n (ys ++ drop (length ys) xs)) zs → Each P ys zs
each_of_written P xs ys zs n all each = subst (λ l. Each P l zs) (take_at ys (drop (length ys) xs) n all) each
