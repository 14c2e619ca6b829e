-- Sums of signed numbers, term by term, and the bounds of a weighted mean.
use Rattle.std.proofs.Common.{◌≡◌, ℕ, suc, ◌+◌, ◌*◌, ◌/◌, ◌<◌, ◌≤◌, List, [], ◌∷◌, ◌++◌, length, map, take, get_or, ap, ◌∙◌, arith, ℤ, pos, negsuc, neg_ℤ, ◌+ℤ◌, ◌*ℤ◌, ◌≤ℤ◌}
use Rattle.std.specs.List.{zip}
use Rattle.std.proofs.lemmas.Int.{ints}
use Rattle.std.proofs.lemmas.List.{take_more, length-map, get_or-map}
use Rattle.std.proofs.lemmas.Nat.{mul-le, div_below}
use Rattle.std.proofs.lemmas.Slice.Zip.{length-zip, get_or-zip}
use Rattle.hk_spec_sound.specs.Numbers.{floor_div, total}
use Rattle.hk_spec_sound.specs.Ranges.{IsSample}

total-push : (zs : List ℤ) (z : ℤ) → total (zs ++ z ∷ []) ≡ total zs +ℤ z
total-push [] z = omega (arith, ints)
total-push (y ∷ zs) z = omega (arith, ints, total-push zs z)

-- one term more
pub total_more : (zs : List ℤ) (k : ℕ) (d : ℤ) → k < length zs → total (take (k + 1) zs) ≡ total (take k zs) +ℤ get_or zs k d
total_more zs k d inside = ap total (take_more zs k d inside) ∙ total-push (take k zs) (get_or zs k d)

-- each weight times its sample
abbrev pub products : List ℕ → List ℤ → List ℤ
products weights xs = map (λ p. pos p.0 *ℤ p.1) (zip weights xs)

pub length-products : (ws : List ℕ) (xs : List ℤ) → length xs ≡ length ws → length (products ws xs) ≡ length xs
length-products ws xs same = length-map (zip ws xs) (λ p. pos p.0 *ℤ p.1) ∙ length-zip ws xs ∙ omega arith

pub get_or-products : (ws : List ℕ) (xs : List ℤ) (k : ℕ) → k < length ws → k < length xs
    → get_or (products ws xs) k (pos 0) ≡ pos (get_or ws k 0) *ℤ get_or xs k (pos 0)
get_or-products ws xs k in_ws in_xs =
    let product : ℕ × ℤ → ℤ = λ p. pos p.0 *ℤ p.1 in
    get_or-map product (zip ws xs) k (0, pos 0) (pos 0) (omega (arith, length-zip ws xs)) ∙ ap product (get_or-zip ws xs k (0, pos 0) in_ws in_xs)

-- a sample times its weight stays within the weight's part of the range
pub product_range : (w : ℕ) (x : ℤ) → IsSample x → (neg_ℤ (pos (32768 * w)) ≤ℤ (pos w *ℤ x)) × ((pos w *ℤ x) ≤ℤ pos (32767 * w))
product_range w (pos n) range =
    let below : w * n ≤ w * 32767 = mul-le w n w 32767 (omega arith) (omega (arith, ints, range.1)) in
    (omega (arith, ints, below), omega (arith, ints, below))
product_range w (negsuc n) range =
    let below : w * suc n ≤ w * 32768 = mul-le w (suc n) w 32768 (omega arith) (omega (arith, ints, range.0)) in
    (omega (arith, ints, below), omega (arith, ints, below))

floor_range : (z : ℤ) (q : ℕ) → 0 < q → neg_ℤ (pos (32768 * q)) ≤ℤ z → z ≤ℤ pos (32767 * q + q / 2) → IsSample (floor_div z q)
floor_range (pos n) q some low high =
    let below : n / q < 32768 = div_below n q 32768 some (omega (arith, ints, high)) in
    (omega (arith, ints), omega (arith, ints, below))
floor_range (negsuc n) q some low high =
    let below : n / q < 32768 = div_below n q 32768 some (omega (arith, ints, low)) in
    (omega (arith, ints, below), omega (arith, ints))

-- the mean of samples is a sample
pub mean_range : (s : ℤ) (q : ℕ) → 0 < q → neg_ℤ (pos (32768 * q)) ≤ℤ s → s ≤ℤ pos (32767 * q) → IsSample (floor_div (s +ℤ pos (q / 2)) q)
mean_range s q some low high = floor_range (s +ℤ pos (q / 2)) q some (omega (arith, ints, low)) (omega (arith, ints, high))
