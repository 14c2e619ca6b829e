-- The items at even and at odd places, one by one.
use Rattle.std.proofs.Common.{◌≡◌, ℕ, zero, suc, ◌+◌, ◌*◌, ◌≤◌, List, [], ◌∷◌, length, map, get_or, refl, ap, sym, ◌∙◌, subst, arith}
use Rattle.std.specs.List.{All}
use Rattle.hk_spec_sound.specs.Spectrum.{evens, odds}

pub length-evens-odds : {A : Type 0} (xs : List A) → length (evens xs) + length (odds xs) ≡ length xs
length-evens-odds [] = refl
length-evens-odds (x ∷ []) = refl
length-evens-odds (x ∷ y ∷ xs) = omega (arith, length-evens-odds xs)

pub length-evens_bounds : {A : Type 0} (xs : List A) → (length (odds xs) ≤ length (evens xs)) × (length (evens xs) ≤ length (odds xs) + 1)
length-evens_bounds [] = (omega arith, omega arith)
length-evens_bounds (x ∷ []) = (omega arith, omega arith)
length-evens_bounds (x ∷ y ∷ xs) = let bounds = length-evens_bounds xs in (omega (arith, bounds.0), omega (arith, bounds.1))

-- both halves of an even number of items
pub length-evens : {A : Type 0} (xs : List A) (n : ℕ) → n + n ≡ length xs → length (evens xs) ≡ n
length-evens xs n even = omega (arith, length-evens-odds xs, (length-evens_bounds xs).0, (length-evens_bounds xs).1)

pub length-odds : {A : Type 0} (xs : List A) (n : ℕ) → n + n ≡ length xs → length (odds xs) ≡ n
length-odds xs n even = omega (arith, length-evens-odds xs, (length-evens_bounds xs).0, (length-evens_bounds xs).1)

pub get_or-evens : {A : Type 0} (xs : List A) (k : ℕ) (d : A) → get_or (evens xs) k d ≡ get_or xs (2 * k) d
get_or-evens [] k d = refl
get_or-evens (x ∷ []) zero d = refl
get_or-evens (x ∷ []) (suc k) d =
    let place : 2 * suc k ≡ suc (suc (2 * k)) = omega arith in
    sym (ap (λ i. get_or (x ∷ []) i d) place)
get_or-evens (x ∷ y ∷ xs) zero d = refl
get_or-evens (x ∷ y ∷ xs) (suc k) d =
    let place : 2 * suc k ≡ suc (suc (2 * k)) = omega arith in
    get_or-evens xs k d ∙ sym (ap (λ i. get_or (x ∷ y ∷ xs) i d) place)

pub get_or-odds : {A : Type 0} (xs : List A) (k : ℕ) (d : A) → get_or (odds xs) k d ≡ get_or xs (2 * k + 1) d
get_or-odds [] k d = refl
get_or-odds (x ∷ []) k d =
    let place : 2 * k + 1 ≡ suc (2 * k) = omega arith in
    sym (ap (λ i. get_or (x ∷ []) i d) place)
get_or-odds (x ∷ y ∷ xs) zero d = refl
get_or-odds (x ∷ y ∷ xs) (suc k) d =
    let place : 2 * suc k + 1 ≡ suc (suc (2 * k + 1)) = omega arith in
    get_or-odds xs k d ∙ sym (ap (λ i. get_or (x ∷ y ∷ xs) i d) place)

pub map-evens : {A B : Type 0} (f : A → B) (xs : List A) → map f (evens xs) ≡ evens (map f xs)
map-evens f [] = refl
map-evens f (x ∷ []) = refl
map-evens f (x ∷ y ∷ xs) = ap (λ ys. f x ∷ ys) (map-evens f xs)

pub map-odds : {A B : Type 0} (f : A → B) (xs : List A) → map f (odds xs) ≡ odds (map f xs)
map-odds f [] = refl
map-odds f (x ∷ []) = refl
map-odds f (x ∷ y ∷ xs) = ap (λ ys. f y ∷ ys) (map-odds f xs)

-- what holds of all items holds of those at even places, and of those at odd places
pub All-evens : {A : Type 0} (P : A → Type 0) (xs : List A) → All P xs → All P (evens xs)
All-evens P xs all k d inside =
    subst P (sym (get_or-evens xs k d)) (all (2 * k) d (omega (arith, length-evens-odds xs, (length-evens_bounds xs).1)))

pub All-odds : {A : Type 0} (P : A → Type 0) (xs : List A) → All P xs → All P (odds xs)
All-odds P xs all k d inside =
    subst P (sym (get_or-odds xs k d)) (all (2 * k + 1) d (omega (arith, length-evens-odds xs, (length-evens_bounds xs).0)))
