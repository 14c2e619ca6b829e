-- The first of a list by a number, as it is found one after another.
use Rattle.std.proofs.Common.{◌≡◌, ◌⊎◌, inl, inr, ◌≤◌, ◌<◌, ℕ, zero, suc, Option, Some, None, List, [], ◌∷◌, fold, slice_get, slice_index_or, length, refl, sym, ◌∙◌, ap, subst, arith}
use Rattle.std.specs.List.{All}
use Rattle.std.proofs.lemmas.List.Elements.{All-nil, All-cons}
use Rattle.hk_spec_monitor.proofs.Legal.{some_of}
use Rattle.hk_spec_monitor.proofs.Logs.{past_end}

-- Each step keeps what was found or takes one from what it sees, that of the lesser number, and finds none only where there is none.
pub record Picks {M A : Type 0} (key : M → ℕ) (Has : A → M → Type 0) (Least : A → M → Type 0) (Clear : A → Type 0) (step : Option M → A → Option M) : Type 0 where
  pub none : (found : Option M) (a : A) → step found a ≡ None → (found ≡ None) × Clear a
  pub some : (found : Option M) (a : A) (m : M) → step found a ≡ Some m → (found ≡ Some m) ⊎ Has a m
  pub before : (found : Option M) (a : A) (m f : M) → step found a ≡ Some m → found ≡ Some f → key m ≤ key f
  pub least : (found : Option M) (a : A) (m : M) → step found a ≡ Some m → Least a m
  pub lower : (a : A) (m n : M) → key m ≤ key n → Least a n → Least a m
  pub clear : (a : A) (m : M) → Clear a → Least a m

module _ {M A : Type 0} (key : M → ℕ) (Has : A → M → Type 0) (Least : A → M → Type 0) (Clear : A → Type 0) (step : Option M → A → Option M) where
  -- some element has it
  abbrev pub AnyHas : List A → M → Type 0
  AnyHas xs m = (i : ℕ) × (x : A) × (slice_get xs i ≡ Some x) × Has x m

  abbrev pub AllLeast : List A → M → Type 0
  AllLeast xs m = All (λ x. Least x m) xs

  module _ (p : Picks key Has Least Clear step) where
    none_of : (xs : List A) (found : Option M) → fold step found xs ≡ None → (found ≡ None) × All Clear xs
    none_of [] found is = (is, All-nil Clear)
    none_of (x ∷ xs) found is =
        let rest = none_of xs (step found x) is in
        let first = p.none found x rest.0 in
        (first.0, All-cons Clear x xs first.1 rest.1)

    some_is : (xs : List A) (found : Option M) (m : M) → fold step found xs ≡ Some m → (found ≡ Some m) ⊎ AnyHas xs m
    some_is [] found m is = inl is
    some_is (x ∷ xs) found m is = elim (some_is xs (step found x) m is) [
      | inl at ↦ elim (p.some found x m at) [ inl was ↦ inl was | inr has ↦ inr (zero, x, refl, has) ]
      | inr there ↦ inr (suc there.0, there.1, there.2, there.3)
    ]

    -- what came of the first step, and of the others from there on
    stepped : (x : A) (xs : List A) (found : Option M) (m f : M) (o : Option M) → step found x ≡ o → found ≡ Some f → ((g : M) → o ≡ Some g → key m ≤ key g) → key m ≤ key f
    stepped x xs found m f None at was rest = past_end f (key m ≤ key f) (sym (p.none found x at).0 ∙ was)
    stepped x xs found m f (Some g) at was rest =
        let more : key m ≤ key g = rest g refl in
        let first : key g ≤ key f = p.before found x g f at was in
        omega (arith, more, first)

    before_of : (xs : List A) (found : Option M) (m f : M) → fold step found xs ≡ Some m → found ≡ Some f → key m ≤ key f
    before_of [] found m f is was = let same : m ≡ f = some_of m f (sym is ∙ was) in omega (arith, ap key same)
    before_of (x ∷ xs) found m f is was = stepped x xs found m f (step found x) refl was (λ g at. before_of xs (step found x) m g is at)

    least_first : (x : A) (xs : List A) (found : Option M) (m : M) (o : Option M) → step found x ≡ o → fold step o xs ≡ Some m → Least x m
    least_first x xs found m None at is = p.clear x m (p.none found x at).1
    least_first x xs found m (Some g) at is = p.lower x m g (before_of xs (Some g) m g is refl) (p.least found x g at)

    least_of : (xs : List A) (found : Option M) (m : M) → fold step found xs ≡ Some m → AllLeast xs m
    least_of [] found m is = All-nil (λ x. Least x m)
    least_of (x ∷ xs) found m is = All-cons (λ y. Least y m) x xs (least_first x xs found m (step found x) refl is) (least_of xs (step found x) m is)

    -- The same is true of all steps over a list.
    pub fold_picks : Picks key AnyHas AllLeast (All Clear) (fold step)
    fold_picks = record {
      none = λ found xs is. none_of xs found is;
      some = λ found xs m is. some_is xs found m is;
      before = λ found xs m f is was. before_of xs found m f is was;
      least = λ found xs m is. least_of xs found m is;
      lower = λ xs m n less low. λ i d inside. p.lower (slice_index_or xs i d) m n less (low i d inside);
      clear = λ xs m all. λ i d inside. p.clear (slice_index_or xs i d) m (all i d inside);
    }
