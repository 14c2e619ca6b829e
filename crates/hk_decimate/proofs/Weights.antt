-- The weights, one by one, and their sum.
use Rattle.std.proofs.Common.{◌≡◌, ℕ, ◌+◌, ◌-◌, ◌*◌, ◌<◌, ◌≤◌, ◌==◌, reverse, length, get_or, refl, ap, sym, ◌∙◌, arith, sum, inl, inr, Bool, true}
use Rattle.std.specs.List.{range_with_len}
use Rattle.std.proofs.lemmas.List.{length-append, length-reverse, get_or_append_left, get_or-append_right, get_or-reverse}
use Rattle.std.proofs.lemmas.List.FromFn.{length-range_with_len, get_or-range_with_len}
use Rattle.std.proofs.lemmas.List.Sums.{AllPass-from_list_all}
use Rattle.std.proofs.lemmas.Bool.Decides.{eqb_tells}
use Rattle.std.proofs.lemmas.Bool.{false≢true}
use Rattle.hk_spec_sound.specs.Samples.{weights}

pub length-weights : (factor : ℕ) → length (weights factor) ≡ factor + (factor - 1)
length-weights factor =
    omega (
      arith,
      length-append (range_with_len 1 factor) (reverse (range_with_len 1 (factor - 1))),
      length-range_with_len 1 factor,
      length-reverse (range_with_len 1 (factor - 1)),
      length-range_with_len 1 (factor - 1),
    )

-- they rise
pub weights-rise : (factor k : ℕ) → k < factor → get_or (weights factor) k 0 ≡ k + 1
weights-rise factor k low =
    let place : 1 + k ≡ k + 1 = omega arith in
    get_or_append_left (range_with_len 1 factor) (reverse (range_with_len 1 (factor - 1))) 0 k (omega (arith, length-range_with_len 1 factor))
    ∙ get_or-range_with_len 1 factor k 0 low ∙ place

-- and fall
pub weights-fall : (factor k : ℕ) → factor ≤ k → k + 1 < 2 * factor → get_or (weights factor) k 0 ≡ 2 * factor - 1 - k
weights-fall factor k high inside =
    let falling = range_with_len 1 (factor - 1) in
    let len : length falling ≡ factor - 1 = length-range_with_len 1 (factor - 1) in
    let place : 1 + (length falling - 1 - (k - factor)) ≡ 2 * factor - 1 - k = omega (arith, len) in
    get_or-append_right (range_with_len 1 factor) (reverse falling) factor k 0 (length-range_with_len 1 factor) high
    ∙ get_or-reverse falling (k - factor) 0 (omega (arith, len))
    ∙ get_or-range_with_len 1 (factor - 1) (length falling - 1 - (k - factor)) 0 (omega (arith, len)) ∙ place

-- the factors in use and those between
abbrev sums_right : ℕ → Bool
sums_right factor = sum (weights factor) == factor * factor

all_right : (factor : ℕ) → factor < 9 → sums_right (get_or (range_with_len 0 9) factor 0) ≡ true
all_right factor few = AllPass-from_list_all sums_right (range_with_len 0 9) refl factor 0 few

pub sum-weights : (factor : ℕ) → factor ≤ 8 → sum (weights factor) ≡ factor * factor
sum-weights factor few =
    let at : get_or (range_with_len 0 9) factor 0 ≡ factor = get_or-range_with_len 0 9 factor 0 (omega arith) ∙ (let e : 0 + factor ≡ factor = omega arith in e) in
    let right : sums_right factor ≡ true = sym (ap sums_right at) ∙ all_right factor (omega arith) in
    elim (eqb_tells (sum (weights factor)) (factor * factor)) [
      | inl same ↦ same.1
      | inr other ↦ absurd (false≢true (sym other.0 ∙ right))
    ]
