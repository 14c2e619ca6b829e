-- What is dealt as other things were.
use Rattle.std.proofs.Common.{◌≡◌, ◌∙◌, ◌+◌, ◌%◌, ◌<◌, ℕ, zero, suc, Some, List, [], ◌∷◌, ◌++◌, length, replicate, slice_get, slice_set, inl, inr, refl, sym, ap, subst, subst₂, arith}
use Rattle.std.proofs.lemmas.Bool.{cases_eq}
use Rattle.std.proofs.lemmas.List.{length-set, set-set, set-get_or}
use Rattle.std.proofs.lemmas.Option.{slice_get_within}
use Rattle.hk_seating.specs.Dealing.{dealt, with_last}
use Rattle.hk_spec_monitor.proofs.Legal.{some_of}
use Rattle.hk_monitor.specs.Rows.{EachOf}
use Rattle.hk_seating.proofs.Lists.{nothing_in, one_longer}
use Rattle.hk_seating.proofs.Dealt.{row, row_same, row_other, came, stayed, none_in, got_before, got_last}

-- rows with nothing in them
pub empty_is : {A : Type 0} (n : ℕ) (rows : List (List A)) → length rows ≡ n → ((w : ℕ) → w < n → length (row rows w) ≡ 0) → rows ≡ replicate n []
empty_is zero [] as_many none = refl
empty_is zero (r ∷ rs) as_many none = absurd (omega (arith, as_many))
empty_is (suc n) [] as_many none = absurd (omega (arith, as_many))
empty_is (suc n) (r ∷ rs) as_many none =
    let h = empty_is n rs (omega (arith, as_many)) (λ w inside. none (suc w) (omega (arith, inside))) in
    let first : r ≡ [] = nothing_in r (none 0 (omega arith)) in
    ap (λ (t : List _). t ∷ rs) first ∙ ap (λ (t : List (List _)). [] ∷ t) h

-- the last of a list that isn't empty
pub last_of : {A : Type 0} (xs : List A) (n : ℕ) → length xs ≡ n + 1 → (front : List A) × (last : A) × (xs ≡ front ++ last ∷ []) × (length front ≡ n)
last_of [] n long = absurd (omega (arith, long))
last_of (x ∷ []) n long = ([], x, refl, omega (arith, long))
last_of (x ∷ y ∷ ys) zero long = absurd (omega (arith, long))
last_of (x ∷ y ∷ ys) (suc n) long =
    let h = last_of (y ∷ ys) n (omega (arith, long)) in
    (x ∷ h.0, h.1, ap (λ (t : List _). x ∷ t) h.2, omega (arith, h.3))

-- what is true of each of three lists is true of each before their last, and of the last
module _ {A B : Type 0} (P : A → A → B → Type 0) where
  pub split_last : (xs : List A) (x : A) (ys : List A) (y : A) (zs : List B) (z : B) (olds news : List A) (others : List B)
      → olds ≡ xs ++ x ∷ [] → news ≡ ys ++ y ∷ [] → others ≡ zs ++ z ∷ [] → length ys ≡ length xs → length zs ≡ length xs → EachOf P olds news others
      → EachOf P xs ys zs × P x y z
  split_last xs x ys y zs z olds news others olds_are news_are others_are as_many one_each each = (
    record {
      as_many = as_many;
      one_each = one_each;
      each = λ i a b c at_a at_b at_c. each.each i a b c
          (subst (λ (t : List A). slice_get t i ≡ Some a) (sym olds_are) (got_before xs x i a at_a))
          (subst (λ (t : List A). slice_get t i ≡ Some b) (sym news_are) (got_before ys y i b at_b))
          (subst (λ (t : List B). slice_get t i ≡ Some c) (sym others_are) (got_before zs z i c at_c));
    },
    each.each (length xs) x y z
        (subst (λ (t : List A). slice_get t (length xs) ≡ Some x) (sym olds_are) (got_last xs x))
        (subst (λ (t : List A). slice_get t (length xs) ≡ Some y) (sym news_are) (subst (λ (k : ℕ). slice_get (ys ++ y ∷ []) k ≡ Some y) as_many (got_last ys y)))
        (subst (λ (t : List B). slice_get t (length xs) ≡ Some z) (sym others_are) (subst (λ (k : ℕ). slice_get (zs ++ z ∷ []) k ≡ Some z) one_each (got_last zs z))),
  )

-- Rows of which one is less its last are as the others are dealt: with it they are as all are.
pub with_last_again : {A : Type 0} (rows before : List (List A)) (w : ℕ) (front : List A) (last : A) → w < length rows → row rows w ≡ front ++ last ∷ []
    → slice_set rows w front ≡ before → rows ≡ with_last before w last
with_last_again {A} rows before w front last inside is same =
    let full : List A = front ++ last ∷ [] in
    let row_is : row before w ≡ front = ap (λ (rs : List (List A)). row rs w) (sym same) ∙ row_same rows w front inside in
    sym (
    ap (λ (r : List A). slice_set before w (r ++ last ∷ [])) row_is
    ∙ ap (λ (rs : List (List A)). slice_set rs w full) (sym same)
    ∙ set-set rows w front full
    ∙ ap (slice_set rows w) (sym is)
    ∙ set-get_or rows w [])

module _ {A B : Type 0} (rows : ℕ) (some : 0 < rows) (P : ℕ → A → A → B → Type 0) where
  -- each of a row, by the row's number
  abbrev pub Alike : List (List A) → List (List A) → List (List B) → Type 0
  Alike olds news others = (w : ℕ) → w < rows → EachOf (P w) (row olds w) (row news w) (row others w)

  -- each of all, by its own number
  pub record AlikeFrom (n : ℕ) (xs ys : List A) (zs : List B) : Type 0 where
    pub as_many : length ys ≡ length xs
    pub one_each : length zs ≡ length xs
    pub each : (i : ℕ) (x y : A) (z : B) → slice_get xs i ≡ Some x → slice_get ys i ≡ Some y → slice_get zs i ≡ Some z → P ((n + i) % rows) x y z

  none_alike : (n : ℕ) → AlikeFrom n [] [] []
  none_alike n = record { as_many = refl; one_each = refl; each = λ i x y z at_x at_y at_z. absurd (let within = slice_get_within [] i x at_x in omega (arith, within)) }

  more_each : (n : ℕ) (x y : A) (z : B) (xs ys : List A) (zs : List B) → P (n % rows) x y z → AlikeFrom (n + 1) xs ys zs
      → (i : ℕ) (a b : A) (c : B) → slice_get (x ∷ xs) i ≡ Some a → slice_get (y ∷ ys) i ≡ Some b → slice_get (z ∷ zs) i ≡ Some c → P ((n + i) % rows) a b c
  more_each n x y z xs ys zs first rest zero a b c at_a at_b at_c =
      let e : n ≡ n + 0 = omega arith in
      subst (λ (m : ℕ). P (m % rows) a b c) e
      (subst (P (n % rows) a b) (some_of z c at_c) (subst (λ b'. P (n % rows) a b' z) (some_of y b at_b) (subst (λ a'. P (n % rows) a' y z) (some_of x a at_a) first)))
  more_each n x y z xs ys zs first rest (suc i) a b c at_a at_b at_c =
      let e : (n + 1) + i ≡ n + suc i = omega arith in
      subst (λ (m : ℕ). P (m % rows) a b c) e (rest.each i a b c at_a at_b at_c)

  -- where one row is less its last, all rows are alike as before
  alike_before : (n w : ℕ) (x : A) (xs : List A) (news : List (List A)) (others : List (List B)) (new : List A) (other : List B) → w ≡ n % rows
      → w < length news → w < length others → Alike (dealt rows n (x ∷ xs)) news others → EachOf (P w) (row (dealt rows (n + 1) xs) w) new other
      → Alike (dealt rows (n + 1) xs) (slice_set news w new) (slice_set others w other)
  alike_before n w x xs news others new other is news_inside others_inside alike here v inside =
      let rest : List (List A) = dealt rows (n + 1) xs in
      let news_before : List (List A) = slice_set news w new in
      let others_before : List (List B) = slice_set others w other in
      elim (cases_eq v w) [
        | inl same ↦ subst (λ (u : ℕ). EachOf (P u) (row rest u) (row news_before u) (row others_before u)) (sym same)
            (subst₂ (EachOf (P w) (row rest w)) (sym (row_same news w new news_inside)) (sym (row_same others w other others_inside)) here)
        | inr apart ↦
            subst (λ (r : List A). EachOf (P v) r (row news_before v) (row others_before v)) (stayed rows some n v x xs (λ same. apart (same ∙ sym is)))
            (subst₂ (EachOf (P v) (row (dealt rows n (x ∷ xs)) v)) (sym (row_other news w v new apart)) (sym (row_other others w v other apart)) (alike v inside))
      ]

  -- these rows are those of things that are alike
  abbrev pub DealtAlike : ℕ → List A → List (List A) → List (List B) → Type 0
  DealtAlike n xs news others = (ys : List A) × (zs : List B) × (news ≡ dealt rows n ys) × (others ≡ dealt rows n zs) × AlikeFrom n xs ys zs

  -- what the rows less these are, the rows with them are
  put_back : (n : ℕ) (x y : A) (z : B) (xs front : List A) (others_front : List B) (news : List (List A)) (others : List (List B))
      → n % rows < length news → n % rows < length others → row news (n % rows) ≡ front ++ y ∷ [] → row others (n % rows) ≡ others_front ++ z ∷ [] → P (n % rows) x y z
      → DealtAlike (n + 1) xs (slice_set news (n % rows) front) (slice_set others (n % rows) others_front) → DealtAlike n (x ∷ xs) news others
  put_back n x y z xs front others_front news others news_inside others_inside news_are others_are first (ys, zs, news_rest, others_rest, alike) = (
    y ∷ ys,
    z ∷ zs,
    with_last_again news (dealt rows (n + 1) ys) (n % rows) front y news_inside news_are news_rest,
    with_last_again others (dealt rows (n + 1) zs) (n % rows) others_front z others_inside others_are others_rest,
    record {
      as_many = ap suc alike.as_many;
      one_each = ap suc alike.one_each;
      each = more_each n x y z xs ys zs first alike;
    },
  )

  pub dealt_alike : (n : ℕ) (xs : List A) (news : List (List A)) (others : List (List B)) → length news ≡ rows → length others ≡ rows → Alike (dealt rows n xs) news others
      → DealtAlike n xs news others
  dealt_alike n [] news others news_rows others_rows alike = (
    [],
    [],
    empty_is rows news news_rows (λ w inside. (alike w inside).as_many ∙ ap length (none_in rows w)),
    empty_is rows others others_rows (λ w inside. (alike w inside).one_each ∙ ap length (none_in rows w)),
    none_alike n,
  )
  dealt_alike n (x ∷ xs) news others news_rows others_rows alike =
      let w : ℕ = n % rows in
      let low : w < rows = omega (arith, some) in
      let rest : List (List A) = dealt rows (n + 1) xs in
      let here : EachOf (P w) (row (dealt rows n (x ∷ xs)) w) (row news w) (row others w) = alike w low in
      let is : row (dealt rows n (x ∷ xs)) w ≡ row rest w ++ x ∷ [] = came rows some n w x xs refl in
      let long : length (row (dealt rows n (x ∷ xs)) w) ≡ length (row rest w) + 1 = one_longer (row (dealt rows n (x ∷ xs)) w) (row rest w) x is in
      let new = last_of (row news w) (length (row rest w)) (here.as_many ∙ long) in
      let other = last_of (row others w) (length (row rest w)) (here.one_each ∙ long) in
      let split = split_last (P w) (row rest w) x new.0 new.1 other.0 other.1 _ _ _ is new.2 other.2 new.3 other.3 here in
      let news_inside : w < length news = omega (arith, low, news_rows) in
      let others_inside : w < length others = omega (arith, low, others_rows) in
      let before : Alike rest (slice_set news w new.0) (slice_set others w other.0) = alike_before n w x xs news others new.0 other.0 refl news_inside others_inside alike split.0 in
      put_back n x new.1 other.1 xs new.0 other.0 news others news_inside others_inside new.2 other.2 split.1
      (dealt_alike (n + 1) xs (slice_set news w new.0) (slice_set others w other.0) (length-set news w new.0 ∙ news_rows) (length-set others w other.0 ∙ others_rows) before)
