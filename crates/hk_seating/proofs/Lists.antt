-- Lists that are emptied and filled from their ends.
use Rattle.std.proofs.Common.{◌≡◌, ◌∙◌, ◌+◌, ◌<◌, ℕ, zero, suc, List, [], ◌∷◌, ◌++◌, map, reverse, length, take, drop, refl, sym, ap, subst, arith, append_assoc}
use Rattle.std.specs.List.{All}
use Rattle.std.proofs.Math.ListN.{length-map, get_or-map}
use Rattle.std.proofs.lemmas.List.{length-append, reverse-append, map_push}
use Rattle.std.proofs.lemmas.List.Elements.{All-map}
use mathlib.Core.List.{reverse_aux}

pub nothing_in : {A : Type 0} (xs : List A) → length xs ≡ 0 → xs ≡ []
nothing_in [] none = refl
nothing_in (x ∷ xs) none = absurd (omega (arith, none))

pub one_longer : {A : Type 0} (xs front : List A) (x : A) → xs ≡ front ++ x ∷ [] → length xs ≡ length front + 1
one_longer xs front x is = ap length is ∙ length-append front (x ∷ [])

map_onto : {A B : Type 0} (f : A → B) (xs onto : List A) → map f (reverse_aux xs onto) ≡ reverse_aux (map f xs) (map f onto)
map_onto f [] onto = refl
map_onto f (x ∷ xs) onto = map_onto f xs (x ∷ onto)

pub map_reverse : {A B : Type 0} (f : A → B) (xs : List A) → map f (reverse xs) ≡ reverse (map f xs)
map_reverse f xs = map_onto f xs []

module _ {A B : Type 0} (f : A → B) where
  -- one more went over, from the end of the first to the end of the second
  pub over_more : (front : List B) (xs : List A) (x : A) (all : List B) → (front ++ f x ∷ []) ++ reverse (map f xs) ≡ all → front ++ reverse (map f (xs ++ x ∷ [])) ≡ all
  over_more front xs x all is =
      ap (λ (t : List B). front ++ t) (ap reverse (map_push f xs x) ∙ reverse-append (map f xs) (f x ∷ []))
      ∙ sym (append_assoc front (f x ∷ []) (reverse (map f xs))) ∙ is

  -- all went over, and the second is turned
  pub all_over : (left : List B) (xs turned : List A) (all : List B) → length left ≡ 0 → left ++ reverse (map f xs) ≡ all → turned ≡ reverse xs → map f turned ≡ all
  all_over left xs turned all none is turns =
      ap (map f) turns ∙ map_reverse f xs ∙ ap (λ (l : List B). l ++ reverse (map f xs)) (sym (nothing_in left none)) ∙ is

-- what is true of all by one look at them is true by another that shows the same
pub same_all : {X Y B : Type 0} (f : X → B) (g : Y → B) (P : B → Type 0) (xs : List X) (ys : List Y) → map f xs ≡ map g ys → All (λ y. P (g y)) ys → All (λ x. P (f x)) xs
same_all f g P xs ys same all i d inside =
    let long = length-map xs f in
    let there : All P (map f xs) = subst (All P) (sym same) (All-map P g ys all) in
    subst P (get_or-map f xs i d) (there i (f d) (omega (arith, long, inside)))

-- the next of a list, what is behind it, and what comes with it
pub next_of : {A : Type 0} (xs : List A) (n : ℕ) → n < length xs → (x : A) × (drop n xs ≡ x ∷ drop (n + 1) xs) × (take (n + 1) xs ≡ take n xs ++ x ∷ [])
next_of [] n inside = absurd (omega (arith, inside))
next_of (x ∷ xs) zero inside = (x, refl, refl)
next_of (x ∷ xs) (suc n) inside =
    let h = next_of xs n (omega (arith, inside)) in
    let e : suc n + 1 ≡ suc (n + 1) = omega arith in
    (h.0, h.1 ∙ ap (λ (m : ℕ). h.0 ∷ drop m (x ∷ xs)) (sym e), ap (λ (m : ℕ). take m (x ∷ xs)) e ∙ ap (λ (t : List _). x ∷ t) h.2)
