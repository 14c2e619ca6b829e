-- The last items, which a window has that is whole with the last of them.
use Rattle.std.proofs.Common.{◌≡◌, ℕ, ◌+◌, ◌-◌, ◌*◌, ◌<◌, ◌≤◌, Bool, true, false, cond, List, [], ◌∷◌, ◌++◌, length, drop, refl, ◌∙◌, ap, sym, arith, length-append}
use Rattle.std.proofs.lemmas.List.{drop-append-le, drop-drop, length-drop}
use Rattle.hk_spec_sound.specs.Windows.{window_count, begun}
use Rattle.hk_spec_sound.proofs.GrowingWindows.{window_inside, window_count-more, completes}
use Rattle.hk_spec_sound.proofs.BegunWindows.{length-begun, window_count-above, window_count-within}

-- the item completes the window that has begun, or doesn't, as the number of items says
tested : {A : Type 0} (size step : ℕ) (xs : List A) (b : Bool) → completes size step (length xs + 1) ≡ b → 0 < step → step ≤ size
    → (length (begun size step xs) + 1 ≡ size → b ≡ true) × (length (begun size step xs) + 1 < size → b ≡ false)
tested size step xs true is some small =
    let n = length xs in
    let more : window_count size step (n + 1) ≡ window_count size step n + 1 = window_count-more size step n some ∙ ap (λ b. window_count size step n + cond b 1 0) is in
    let inside : window_count size step n * step + size ≤ n + 1 = window_inside size step (n + 1) (window_count size step n) (omega (arith, more)) in
    (λ whole. refl, λ part. absurd (omega (arith, inside, length-begun size step xs, part)))
tested size step xs false is some small =
    let n = length xs in
    let same : window_count size step (n + 1) ≡ window_count size step n + 0 = window_count-more size step n some ∙ ap (λ b. window_count size step n + cond b 1 0) is in
    let product : window_count size step (n + 1) * step ≡ window_count size step n * step = ap (λ c. c * step) (omega (arith, same)) in
    let above : n + 1 < window_count size step (n + 1) * step + size = window_count-above size step (n + 1) some in
    (λ whole. absurd (omega (arith, above, product, length-begun size step xs, window_count-within size step n small, whole)), λ part. refl)

pub completes-whole : {A : Type 0} (size step : ℕ) (xs : List A) → 0 < step → step ≤ size → length (begun size step xs) + 1 ≡ size
    → completes size step (length xs + 1) ≡ true
completes-whole size step xs some small whole = (tested size step xs (completes size step (length xs + 1)) refl some small).0 whole

pub completes-part : {A : Type 0} (size step : ℕ) (xs : List A) → 0 < step → step ≤ size → length (begun size step xs) + 1 < size
    → completes size step (length xs + 1) ≡ false
completes-part size step xs some small part = (tested size step xs (completes size step (length xs + 1)) refl some small).1 part

-- the window that the item completes
pub begun-last : {A : Type 0} (size step : ℕ) (xs : List A) (x : A) → step ≤ size → length (begun size step xs) + 1 ≡ size
    → begun size step xs ++ x ∷ [] ≡ drop (length (xs ++ x ∷ []) - size) (xs ++ x ∷ [])
unfolding begun
begun-last size step xs x small whole =
    let within : window_count size step (length xs) * step ≤ length xs = window_count-within size step (length xs) small in
    let place : window_count size step (length xs) * step ≡ length (xs ++ x ∷ []) - size = omega (arith, within, length-begun size step xs, length-append xs (x ∷ []), whole) in
    sym (drop-append-le (window_count size step (length xs) * step) xs (x ∷ []) within) ∙ ap (λ p. drop p (xs ++ x ∷ [])) place

-- the last items with one more
pub last-more : {A : Type 0} (size : ℕ) (xs : List A) (x : A)
    → drop (length (drop (length xs - size) xs ++ x ∷ []) - size) (drop (length xs - size) xs ++ x ∷ []) ≡ drop (length (xs ++ x ∷ []) - size) (xs ++ x ∷ [])
last-more size xs x =
    let before = length xs - size in
    let last = drop before xs ++ x ∷ [] in
    let kept : length last ≡ length xs - before + 1 = length-append (drop before xs) (x ∷ []) ∙ ap (λ n. n + 1) (length-drop before xs) in
    let place : before + (length last - size) ≡ length (xs ++ x ∷ []) - size = omega (arith, kept, length-append xs (x ∷ [])) in
    ap (drop (length last - size)) (sym (drop-append-le before xs (x ∷ []) (omega arith)))
    ∙ drop-drop (length last - size) before (xs ++ x ∷ [])
    ∙ ap (λ p. drop p (xs ++ x ∷ [])) place
