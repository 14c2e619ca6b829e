-- Windows from the one that has begun: an item more makes it whole, or not yet.
use Rattle.std.proofs.Common.{◌≡◌, ℕ, suc, ◌+◌, ◌-◌, ◌*◌, ◌/◌, ◌%◌, ◌<◌, ◌≤◌, Bool, true, false, cond, List, [], ◌∷◌, ◌++◌, length, take, drop, ◌∙◌, ap, sym, subst, inl, inr, arith}
use Rattle.std.proofs.lemmas.Bool.Decides.{leb_tells}
use Rattle.std.proofs.lemmas.List.{length-append, length-drop, drop-append-le, drop-drop, take_all}
use Rattle.std.proofs.lemmas.Nat.{div-add-mod', mod_below}
use Rattle.std.proofs.Math.Seq.{drop-nil}
use Rattle.hk_spec_sound.specs.Windows.{windows, window, window_count, begun}
use Rattle.hk_spec_sound.proofs.GrowingWindows.{window_inside, window_count-more, windows-append_none, windows-append_one, completes}

-- the next window is not whole
pub window_count-above : (size step n : ℕ) → 0 < step → n < window_count size step n * step + size
window_count-above size step n some =
    let P : ℕ → Type 0 = λ c. n < c * step + size in
    elim (leb_tells (suc n) size) [
      | inl few ↦ subst P (sym (ap (λ b. cond b 0 ((n - size) / step + 1)) few.0)) (omega (arith, few.1))
      | inr many ↦
          let whole : (n - size) / step * step + (n - size) % step ≡ n - size = div-add-mod' (n - size) step in
          subst P (sym (ap (λ b. cond b 0 ((n - size) / step + 1)) many.0)) (omega (arith, whole, mod_below (n - size) step some, many.1))
    ]

-- it has begun within the items
pub window_count-within : (size step n : ℕ) → step ≤ size → window_count size step n * step ≤ n
window_count-within size step n small =
    let c = window_count size step n in
    elim (leb_tells 1 c) [
      | inl some ↦
          let before : c - 1 < c = omega (arith, some.1) in
          let last : (c - 1) * step + size ≤ n = window_inside size step n (c - 1) before in
          let split : c * step ≡ (c - 1) * step + step = ap (λ k. k * step) (let e : c ≡ c - 1 + 1 = omega (arith, some.1) in e) ∙ omega arith in
          omega (arith, last, split)
      | inr none ↦
          let zero : c ≡ 0 = omega (arith, none.1) in
          let product : c * step ≡ 0 * step = ap (λ k. k * step) zero in
          omega (arith, product)
    ]

pub length-begun : {A : Type 0} (size step : ℕ) (xs : List A) → length (begun size step xs) ≡ length xs - window_count size step (length xs) * step
unfolding begun
length-begun size step xs = length-drop (window_count size step (length xs) * step) xs

-- how many windows there are with one item more
count_next : (size step n : ℕ) (b : Bool) → window_count size step (n + 1) ≡ window_count size step n + cond b 1 0 → 0 < step
    → (n + 1 ≡ window_count size step n * step + size → window_count size step (n + 1) ≡ window_count size step n + 1)
    × (n + 1 < window_count size step n * step + size → window_count size step (n + 1) ≡ window_count size step n)
count_next size step n true next some = (
  λ whole. next,
  λ part. absurd (
      let inside : window_count size step n * step + size ≤ n + 1 = window_inside size step (n + 1) (window_count size step n) (omega (arith, next)) in
      omega (arith, inside, part)),
)
count_next size step n false next some = (
  λ whole. absurd (
      let same : window_count size step (n + 1) * step ≡ window_count size step n * step = ap (λ c. c * step) (omega (arith, next)) in
      omega (arith, window_count-above size step (n + 1) some, same, whole)),
  λ part. omega (arith, next),
)

pub windows-whole : {A : Type 0} (size step : ℕ) (xs : List A) (x : A) → 0 < step → step ≤ size → length (begun size step xs) + 1 ≡ size
    → (windows size step (xs ++ x ∷ []) ≡ windows size step xs ++ (begun size step xs ++ x ∷ []) ∷ [])
    × (begun size step (xs ++ x ∷ []) ≡ drop step (begun size step xs ++ x ∷ []))
unfolding begun
windows-whole size step xs x some small whole =
    let n = length xs in
    let c = window_count size step n in
    let within : c * step ≤ n = window_count-within size step n small in
    let count : window_count size step (n + 1) ≡ c + 1 =
    (count_next size step n (completes size step (n + 1)) (window_count-more size step n some) some).0 (omega (arith, length-drop (c * step) xs, within, whole)) in
    let from_there : drop (c * step) (xs ++ x ∷ []) ≡ drop (c * step) xs ++ x ∷ [] = drop-append-le (c * step) xs (x ∷ []) within in
    let window_is : window size step (xs ++ x ∷ []) c ≡ drop (c * step) xs ++ x ∷ [] =
    ap (take size) from_there ∙ take_all size (drop (c * step) xs ++ x ∷ []) (omega (arith, length-append (drop (c * step) xs) (x ∷ []), whole)) in
    let next : window_count size step (length (xs ++ x ∷ [])) ≡ c + 1 = ap (window_count size step) (length-append xs (x ∷ [])) ∙ count in
    let places : (c + 1) * step ≡ c * step + step = omega arith in (
      windows-append_one size step xs x count ∙ ap (λ w. windows size step xs ++ w ∷ []) window_is,
      ap (λ k. drop (k * step) (xs ++ x ∷ [])) next ∙ ap (λ k. drop k (xs ++ x ∷ [])) places
          ∙ sym (drop-drop step (c * step) (xs ++ x ∷ [])) ∙ ap (drop step) from_there,
    )

pub windows-begun : {A : Type 0} (size step : ℕ) (xs : List A) (x : A) → 0 < step → step ≤ size → length (begun size step xs) + 1 < size
    → (windows size step (xs ++ x ∷ []) ≡ windows size step xs) × (begun size step (xs ++ x ∷ []) ≡ begun size step xs ++ x ∷ [])
unfolding begun
windows-begun size step xs x some small part =
    let n = length xs in
    let c = window_count size step n in
    let within : c * step ≤ n = window_count-within size step n small in
    let count : window_count size step (n + 1) ≡ c =
    (count_next size step n (completes size step (n + 1)) (window_count-more size step n some) some).1 (omega (arith, length-drop (c * step) xs, within, part)) in
    let next : window_count size step (length (xs ++ x ∷ [])) ≡ c = ap (window_count size step) (length-append xs (x ∷ [])) ∙ count in (
      windows-append_none size step xs x count,
      ap (λ k. drop (k * step) (xs ++ x ∷ [])) next ∙ drop-append-le (c * step) xs (x ∷ []) within,
    )

pub begun-nil : {A : Type 0} (size step : ℕ) → ◌≡◌ {A = List A} (begun size step []) []
unfolding begun
begun-nil size step = drop-nil (window_count size step 0 * step)
