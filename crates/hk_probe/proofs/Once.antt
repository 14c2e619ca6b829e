-- Lists of places without repeats: two that have the same places have the same sums.
use Rattle.std.proofs.Common.{◌≡◌, ◌≢◌, ℕ, zero, suc, List, [], ◌∷◌, ◌++◌, get_or, sum_by, ◌⊎◌, refl, sym, ap, subst, arith, inl, inr}
use Rattle.std.specs.List.{All, Contains}
use Rattle.std.proofs.lemmas.List.Sums.{sum_by-cons, sum_by-append}
use Rattle.std.proofs.lemmas.List.Elements.{All-cons, All-head, All-tail, All-append, Contains-append_left, Contains-append_right, Contains-append_cases}
use Rattle.hk_table.specs.declared.place.Place.{Place}
use Rattle.hk_table.specs.Index.{AreOnce}

pub contains_first : {A : Type 0} (x : A) (xs : List A) → Contains (x ∷ xs) x
contains_first x xs = (0, omega arith, refl)

pub contains_later : {A : Type 0} (x z : A) (xs : List A) → Contains xs z → Contains (x ∷ xs) z
contains_later x z xs there = (suc there.0, omega (arith, there.1), there.2)

contains_cases : {A : Type 0} (x z : A) (xs : List A) → Contains (x ∷ xs) z → (x ≡ z) ⊎ Contains xs z
contains_cases x z xs (zero, low, is) = inl is
contains_cases x z xs (suc k, low, is) = inr (k, omega (arith, low), is)

-- what stands before an item, and behind it
record Parted {A : Type 0} (xs : List A) (x : A) : Type 0 where
  front : List A
  back : List A
  is : xs ≡ front ++ x ∷ back

part_at : {A : Type 0} (xs : List A) (x : A) → Contains xs x → Parted xs x
part_at [] x (k, low, is) = absurd (omega (arith, low))
part_at (y ∷ ys) x (zero, low, is) = record { front = []; back = ys; is = ap (λ z. z ∷ ys) is }
part_at (y ∷ ys) x (suc k, low, is) =
    let rest = part_at ys x (k, omega (arith, low), is) in
    record { front = y ∷ rest.front; back = rest.back; is = ap (λ zs. y ∷ zs) rest.is }

all_without : {A : Type 0} (P : A → Type 0) (front : List A) (x : A) (back : List A) → All P (front ++ x ∷ back) → All P (front ++ back)
all_without P [] x back all = All-tail P x back all
all_without P (a ∷ front) x back all =
    All-cons P a (front ++ back) (All-head P a (front ++ x ∷ back) all) (all_without P front x back (All-tail P a (front ++ x ∷ back) all))

all_there : {A : Type 0} (P : A → Type 0) (front : List A) (x : A) (back : List A) → All P (front ++ x ∷ back) → P x
all_there P [] x back all = All-head P x back all
all_there P (a ∷ front) x back all = all_there P front x back (All-tail P a (front ++ x ∷ back) all)

once_without : (front : List Place) (x : Place) (back : List Place) → AreOnce (front ++ x ∷ back)
    → All (λ y. x ≢ y) (front ++ back) × AreOnce (front ++ back)
once_without [] x back once = once
once_without (a ∷ front) x back once =
    let rest = once_without front x back once.1 in
    let other : a ≢ x = all_there (λ y. a ≢ y) front x back once.0 in (
      All-cons (λ y. x ≢ y) a (front ++ back) (λ is. other (sym is)) rest.0,
      (all_without (λ y. a ≢ y) front x back once.0, rest.1),
    )

contains_without : (front : List Place) (x : Place) (back : List Place) (z : Place) → x ≢ z → Contains (front ++ x ∷ back) z → Contains (front ++ back) z
contains_without front x back z other there = elim (Contains-append_cases front (x ∷ back) z there) [
  | inl before ↦ Contains-append_left front back z before
  | inr from ↦ elim (contains_cases x z back from) [
    | inl is ↦ absurd (other is)
    | inr behind ↦ Contains-append_right front back z behind
  ]
]

pub once-append : (xs ys : List Place) → AreOnce xs → AreOnce ys → All (λ x. All (λ y. x ≢ y) ys) xs → AreOnce (xs ++ ys)
once-append [] ys first second apart = second
once-append (x ∷ xs) ys first second apart =
    let P : Place → Type 0 = λ x. All (λ y. x ≢ y) ys in
    (All-append (λ y. x ≢ y) xs ys first.0 (All-head P x xs apart), once-append xs ys first.1 second (All-tail P x xs apart))

pub same_sums : (f : Place → ℕ) (xs ys : List Place) → AreOnce xs → AreOnce ys → All (Contains ys) xs → All (Contains xs) ys → sum_by f xs ≡ sum_by f ys
same_sums f [] [] once other there back = refl
same_sums f [] (y ∷ ys) once other there back = let none = All-head (Contains []) y ys back in absurd (omega (arith, none.1))
same_sums f (x ∷ xs) ys once other there back =
    let part = part_at ys x (All-head (Contains ys) x xs there) in
    let rest : List Place = part.front ++ part.back in
    let left = once_without part.front x part.back (subst AreOnce part.is other) in
    let in_rest : All (Contains rest) xs = λ k d low.
    let z : Place = get_or xs k d in
    let Q : List Place → Type 0 = λ zs. Contains zs z in
    contains_without part.front x part.back z (once.0 k d low) (subst Q part.is (All-tail (Contains ys) x xs there k d low)) in
    let R : List Place → Type 0 = λ zs. All (Contains (x ∷ xs)) zs in
    let all_back = all_without (Contains (x ∷ xs)) part.front x part.back (subst R part.is back) in
    let in_xs : All (Contains xs) rest = λ k d low. elim (contains_cases x (get_or rest k d) xs (all_back k d low)) [
      | inl is ↦ absurd (left.0 k d low is)
      | inr later ↦ later
    ] in
    let same = same_sums f xs rest once.1 left.1 in_rest in_xs in
    omega (
      arith,
      sum_by-cons f x xs,
      same,
      sum_by-append f part.front part.back,
      ap (sum_by f) part.is,
      sum_by-append f part.front (x ∷ part.back),
      sum_by-cons f x part.back,
    )
