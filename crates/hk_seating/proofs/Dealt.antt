-- Where dealt things are.
use Rattle.std.proofs.Common.{◌≡◌, ◌≢◌, ◌∙◌, ◌⊎◌, ◌+◌, ◌%◌, ◌≤◌, ◌<◌, ℕ, zero, suc, Some, List, [], ◌∷◌, ◌++◌, length, replicate, slice_get, slice_index_or, slice_set, inl, inr, refl, sym, ap, subst, arith}
use Rattle.std.specs.Option.{option_map_or}
use Rattle.std.proofs.lemmas.Bool.{cases_eq}
use Rattle.std.proofs.lemmas.List.{length-append, length-set, length-replicate, get_or-set_same, get_or-set_other}
use Rattle.std.proofs.lemmas.Option.{slice_get_within}
use Rattle.hk_seating.specs.Dealing.{dealt}

-- the row at a place, and none past the last
abbrev pub row : {A : Type 0} → List (List A) → ℕ → List A
row rows w = slice_index_or rows w []

module _ {A : Type 0} where
  pub row_same : (rows : List (List A)) (w : ℕ) (xs : List A) → w < length rows → row (slice_set rows w xs) w ≡ xs
  row_same rows w xs inside = get_or-set_same rows w xs [] inside

  pub row_other : (rows : List (List A)) (w v : ℕ) (xs : List A) → v ≢ w → row (slice_set rows w xs) v ≡ row rows v
  row_other rows w v xs other = get_or-set_other rows w v xs [] other

  pub length_dealt : (rows n : ℕ) (xs : List A) → length (dealt rows n xs) ≡ rows
  length_dealt rows n [] = length-replicate rows []
  length_dealt rows n (x ∷ xs) = length-set (dealt rows (n + 1) xs) (n % rows) (row (dealt rows (n + 1) xs) (n % rows) ++ x ∷ []) ∙ length_dealt rows (n + 1) xs

  -- what stands in a list with one more at its end
  pub got_more : (xs : List A) (x : A) (m : ℕ) (p : A) → slice_get (xs ++ x ∷ []) m ≡ Some p
      → (slice_get xs m ≡ Some p) ⊎ ((m ≡ length xs) × (x ≡ p))
  got_more [] x zero p is = inr (refl, ap (λ o. option_map_or (λ y. y) o x) is)
  got_more [] x (suc m) p is = cc
  got_more (y ∷ xs) x zero p is = inl is
  got_more (y ∷ xs) x (suc m) p is = elim (got_more xs x m p is) [
    | inl h ↦ inl h
    | inr h ↦ inr (omega (arith, h.0), h.1)
  ]

  -- what stood there stays, and the last is there
  pub got_before : (xs : List A) (x : A) (m : ℕ) (p : A) → slice_get xs m ≡ Some p → slice_get (xs ++ x ∷ []) m ≡ Some p
  got_before [] x m p is = absurd (let inside = slice_get_within [] m p is in omega (arith, inside))
  got_before (y ∷ xs) x zero p is = is
  got_before (y ∷ xs) x (suc m) p is = got_before xs x m p is

  pub got_last : (xs : List A) (x : A) → slice_get (xs ++ x ∷ []) (length xs) ≡ Some x
  got_last [] x = refl
  got_last (y ∷ xs) x = got_last xs x

pub none_in : {A : Type 0} (rows w : ℕ) → row (replicate {A = List A} rows []) w ≡ []
none_in zero w = refl
none_in (suc n) zero = refl
none_in (suc n) (suc w) = none_in n w

module _ {A : Type 0} (rows : ℕ) (some : 0 < rows) where
  inside : (n m : ℕ) (xs : List A) → n % rows < length (dealt rows m xs)
  inside n m xs = omega (arith, length_dealt rows m xs, some)

  -- the row that one more came to, and the others
  pub came : (n w : ℕ) (x : A) (xs : List A) → w ≡ n % rows → row (dealt rows n (x ∷ xs)) w ≡ row (dealt rows (n + 1) xs) w ++ x ∷ []
  came n w x xs same =
      let rest = dealt rows (n + 1) xs in
      subst (λ (v : ℕ). row (dealt rows n (x ∷ xs)) v ≡ row rest v ++ x ∷ []) (sym same)
      (row_same rest (n % rows) (row rest (n % rows) ++ x ∷ []) (inside n (n + 1) xs))

  pub stayed : (n w : ℕ) (x : A) (xs : List A) → w ≢ n % rows → row (dealt rows n (x ∷ xs)) w ≡ row (dealt rows (n + 1) xs) w
  stayed n w x xs other = row_other (dealt rows (n + 1) xs) (n % rows) w (row (dealt rows (n + 1) xs) (n % rows) ++ x ∷ []) other

  -- thing i of those from number n on is in its row
  pub has_place : (n w : ℕ) (xs : List A) (i : ℕ) (x : A) → w ≡ (n + i) % rows → slice_get xs i ≡ Some x → (k : ℕ) × (slice_get (row (dealt rows n xs) w) k ≡ Some x)
  has_place n w [] i x is at = absurd (let within = slice_get_within [] i x at in omega (arith, within))
  has_place n w (y ∷ ys) zero x is at =
      let e : n + 0 ≡ n = omega arith in
      let before = row (dealt rows (n + 1) ys) w in
      (length before, subst (λ (r : List A). slice_get r (length before) ≡ Some x) (sym (came n w y ys (is ∙ ap (λ (m : ℕ). m % rows) e))) (got_last before y ∙ at))
  has_place n w (y ∷ ys) (suc i) x is at =
      let e : n + suc i ≡ (n + 1) + i = omega arith in
      let h = has_place (n + 1) w ys i x (is ∙ ap (λ (m : ℕ). m % rows) e) at in (
        h.0,
        elim (cases_eq w (n % rows)) [
          | inl same ↦ subst (λ (r : List A). slice_get r h.0 ≡ Some x) (sym (came n w y ys same)) (got_before (row (dealt rows (n + 1) ys) w) y h.0 x h.1)
          | inr other ↦ subst (λ (r : List A). slice_get r h.0 ≡ Some x) (sym (stayed n w y ys other)) h.1
        ],
      )

  -- what is in a row is one of them, and its number says so
  abbrev pub Numbered : ℕ → ℕ → List A → A → Type 0
  Numbered n w xs x = (i : ℕ) × (slice_get xs i ≡ Some x) × ((n + i) % rows ≡ w)

  later : (n w : ℕ) (y : A) (ys : List A) (x : A) → Numbered (n + 1) w ys x → Numbered n w (y ∷ ys) x
  later n w y ys x h = let e : n + suc h.0 ≡ (n + 1) + h.0 = omega arith in (suc h.0, h.1, ap (λ (m : ℕ). m % rows) e ∙ h.2)

  pub has_number : (n w : ℕ) (xs : List A) (k : ℕ) (x : A) → slice_get (row (dealt rows n xs) w) k ≡ Some x → Numbered n w xs x
  has_number n w [] k x at = absurd (let within = slice_get_within [] k x (subst (λ (r : List A). slice_get r k ≡ Some x) (none_in rows w) at) in omega (arith, within))
  has_number n w (y ∷ ys) k x at = elim (cases_eq w (n % rows)) [
    | inl same ↦ elim (got_more (row (dealt rows (n + 1) ys) w) y k x (subst (λ (r : List A). slice_get r k ≡ Some x) (came n w y ys same) at)) [
      | inl h ↦ later n w y ys x (has_number (n + 1) w ys k x h)
      | inr h ↦ let e : n + 0 ≡ n = omega arith in (0, ap Some h.1, ap (λ (m : ℕ). m % rows) e ∙ sym same)
    ]
    | inr other ↦ later n w y ys x (has_number (n + 1) w ys k x (subst (λ (r : List A). slice_get r k ≡ Some x) (stayed n w y ys other) at))
  ]

  -- no row has more than there are
  pub short_rows : (n w : ℕ) (xs : List A) → length (row (dealt rows n xs) w) ≤ length xs
  short_rows n w [] = let none = ap length (none_in {A = A} rows w) in omega (arith, none)
  short_rows n w (y ∷ ys) =
      let before = short_rows (n + 1) w ys in
      let last = length-append (row (dealt rows (n + 1) ys) w) (y ∷ []) in
      elim (cases_eq w (n % rows)) [
        | inl same ↦ let now = ap length (came n w y ys same) in omega (arith, before, last, now)
        | inr other ↦ let now = ap length (stayed n w y ys other) in omega (arith, before, now)
      ]
