-- Groups of one size, one behind the other: an item more completes a group, or is left behind the whole groups.
use Rattle.std.proofs.Common.{◌≡◌, ℕ, suc, ◌+◌, ◌-◌, ◌*◌, ◌/◌, ◌%◌, ◌<◌, ◌≤◌, List, [], ◌∷◌, ◌++◌, length, take, drop, sym, ◌∙◌, ap, arith, length-append, mod-lt, inl, inr, cond}
use Rattle.std.proofs.lemmas.List.{drop-append-le, take_all, drop_all, length-drop}
use Rattle.std.proofs.lemmas.Bool.Decides.{leb_tells}
use Rattle.std.proofs.lemmas.Nat.{div-add-mod', div-mul-add}
use Rattle.hk_spec_sound.specs.Windows.{windows, window, window_count}
use Rattle.hk_spec_sound.specs.Groups.{rest_of}
use Rattle.hk_spec_sound.proofs.GrowingWindows.{windows-append_none, windows-append_one}

-- as many windows as whole groups
group_count : (size n : ℕ) → 0 < size → window_count size size n ≡ n / size
group_count size n some = elim (leb_tells (suc n) size) [
  | inl few ↦
      let none : n ≡ 0 * size + n = omega arith in
      let count : window_count size size n ≡ 0 = ap (λ b. cond b 0 ((n - size) / size + 1)) few.0 in
      count ∙ sym (ap (λ k. k / size) none ∙ div-mul-add 0 size n few.1)
  | inr many ↦
      let whole : (n - size) / size * size + (n - size) % size ≡ n - size = div-add-mod' (n - size) size in
      let below : (n - size) % size < size = mod-lt (n - size) some in
      let more : n ≡ ((n - size) / size + 1) * size + (n - size) % size = omega (arith, whole, many.1) in
      let count : window_count size size n ≡ (n - size) / size + 1 = ap (λ b. cond b 0 ((n - size) / size + 1)) many.0 in
      count ∙ sym (ap (λ k. k / size) more ∙ div-mul-add ((n - size) / size + 1) size ((n - size) % size) below)
]

pub length-rest_of : {A : Type 0} (size : ℕ) (xs : List A) → length (rest_of size xs) ≡ length xs % size
length-rest_of size xs =
    let whole : length xs / size * size + length xs % size ≡ length xs = div-add-mod' (length xs) size in
    omega (arith, whole, length-drop (length xs / size * size) xs)

pub rest_is_short : {A : Type 0} (size : ℕ) (xs : List A) → 0 < size → length (rest_of size xs) < size
rest_is_short size xs some =
    let below : length xs % size < size = mod-lt (length xs) some in
    omega (arith, below, length-rest_of size xs)

-- the item completes a group
pub groups-append_whole : {A : Type 0} (size : ℕ) (xs : List A) (x : A) → 0 < size → length (rest_of size xs) + 1 ≡ size
    → (windows size size (xs ++ x ∷ []) ≡ windows size size xs ++ (rest_of size xs ++ x ∷ []) ∷ [])
    × (rest_of size (xs ++ x ∷ []) ≡ [])
groups-append_whole {A} size xs x some full =
    let n : ℕ = length xs in
    let q : ℕ = length xs / size in
    let whole : length xs / size * size + length xs % size ≡ length xs = div-add-mod' n size in
    let left : length (rest_of size xs) ≡ length xs % size = length-rest_of size xs in
    let more : length xs + 1 ≡ (length xs / size + 1) * size + 0 = omega (arith, whole, left, full) in
    let quotient : (length xs + 1) / size ≡ length xs / size + 1 = ap (λ k. k / size) more ∙ div-mul-add (q + 1) size 0 some in
    let long : length (xs ++ x ∷ []) ≡ length xs + 1 = length-append xs (x ∷ []) in
    let rises : window_count size size (n + 1) ≡ window_count size size n + 1 =
    group_count size (n + 1) some ∙ quotient ∙ sym (ap (λ k. k + 1) (group_count size n some)) in
    let inside : length xs / size * size ≤ length xs = omega (arith, whole) in
    let group : List A = rest_of size xs ++ x ∷ [] in
    let group_long : length (rest_of size xs ++ x ∷ []) ≡ length (rest_of size xs) + 1 = length-append (rest_of size xs) (x ∷ []) in
    let last : window size size (xs ++ x ∷ []) (window_count size size n) ≡ group =
    ap (window size size (xs ++ x ∷ [])) (group_count size n some)
    ∙ ap (take size) (drop-append-le (q * size) xs (x ∷ []) inside)
    ∙ take_all size group (omega (arith, group_long, full)) in
    let end : length (xs ++ x ∷ []) / size * size ≡ length xs + 1 =
    ap (λ k. k / size * size) long ∙ ap (λ k. k * size) quotient ∙ omega (arith, more) in (
      windows-append_one size size xs x rises ∙ ap (λ w. windows size size xs ++ w ∷ []) last,
      drop_all (length (xs ++ x ∷ []) / size * size) (xs ++ x ∷ []) (omega (arith, end, long)),
    )

-- the item is left too
pub groups-append_part : {A : Type 0} (size : ℕ) (xs : List A) (x : A) → 0 < size → length (rest_of size xs) + 1 < size
    → (windows size size (xs ++ x ∷ []) ≡ windows size size xs)
    × (rest_of size (xs ++ x ∷ []) ≡ rest_of size xs ++ x ∷ [])
groups-append_part size xs x some part =
    let n : ℕ = length xs in
    let q : ℕ = length xs / size in
    let whole : length xs / size * size + length xs % size ≡ length xs = div-add-mod' n size in
    let left : length (rest_of size xs) ≡ length xs % size = length-rest_of size xs in
    let more : length xs + 1 ≡ length xs / size * size + (length xs % size + 1) = omega (arith, whole) in
    let quotient : (length xs + 1) / size ≡ length xs / size = ap (λ k. k / size) more ∙ div-mul-add q size (n % size + 1) (omega (arith, left, part)) in
    let long : length (xs ++ x ∷ []) ≡ length xs + 1 = length-append xs (x ∷ []) in
    let stays : window_count size size (n + 1) ≡ window_count size size n =
    group_count size (n + 1) some ∙ quotient ∙ sym (group_count size n some) in
    let inside : length xs / size * size ≤ length xs = omega (arith, whole) in
    let start : length (xs ++ x ∷ []) / size ≡ length xs / size = ap (λ k. k / size) long ∙ quotient in (
      windows-append_none size size xs x stays,
      ap (λ k. drop (k * size) (xs ++ x ∷ [])) start ∙ drop-append-le (q * size) xs (x ∷ []) inside,
    )
