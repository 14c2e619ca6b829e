-- Lists that grow with a list: more items in, more items out.
use Rattle.std.proofs.Common.{◌≡◌, List, [], ◌∷◌, ◌++◌, sym, ◌∙◌, ap, append_assoc, append-nil}

unfoldable pub Grows : {A B : Type 0} → (List A → List B) → Type 0
Grows {A} {B} f = (xs ys : List A) → (more : List B) × (f (xs ++ ys) ≡ f xs ++ more)

-- by one item at a time
pub by_one : {A B : Type 0} (f : List A → List B) → ((xs : List A) (x : A) → (more : List B) × (f (xs ++ x ∷ []) ≡ f xs ++ more)) → Grows f
unfolding Grows
by_one f step xs [] = ([], ap f (append-nil xs) ∙ sym (append-nil (f xs)))
by_one f step xs (y ∷ ys) =
    let one = step xs y in
    let rest = by_one f step (xs ++ y ∷ []) ys in
    (one.0 ++ rest.0, ap f (sym (append_assoc xs (y ∷ []) ys)) ∙ rest.1 ∙ ap (λ t. t ++ rest.0) one.1 ∙ append_assoc (f xs) one.0 rest.0)

-- one after the other
pub after : {A B C : Type 0} (g : List B → List C) (f : List A → List B) → Grows g → Grows f → Grows (λ xs. g (f xs))
unfolding Grows
after g f g_grows f_grows xs ys =
    let inner = f_grows xs ys in
    let outer = g_grows (f xs) inner.0 in
    (outer.0, ap g inner.1 ∙ outer.1)
