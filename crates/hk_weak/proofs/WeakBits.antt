-- The bits of the mask, and what comes before a bit.
use Rattle.std.proofs.Common.{◌≡◌, ◌∙◌, ℕ, ◌+◌, ◌<◌, nat_lt, ℤ, pos, List, map, take, length, get_or, Bool, cond, refl, ap, arith}
use Rattle.std.specs.List.{enumerate_from, count_by}
use Rattle.std.proofs.lemmas.List.{length-map, get_or-map}
use Rattle.std.proofs.lemmas.List.FromFn.{length-enumerate_from, get_or-enumerate_from}
use Rattle.std.proofs.lemmas.List.Sums.{sum_by_more}
use Rattle.hk_spec_sound.specs.Numbers.{number_of_bits}
use Rattle.hk_spec_sound.specs.Prints.{comes_before, mask_of}

-- how many differences come before this one
abbrev pub rank_of : ℕ × ℤ → List ℤ → ℕ
rank_of e ds = count_by (λ d. comes_before d e) (enumerate_from 0 ds)

-- whether each difference is among the first
abbrev pub weak_bits : ℕ → List ℤ → List Bool
weak_bits flips ds = map (λ e. nat_lt (rank_of e ds) flips) (enumerate_from 0 ds)

pub mask_of-weak_bits : (flips : ℕ) (ds : List ℤ) → mask_of flips ds ≡ number_of_bits (weak_bits flips ds)
unfolding mask_of
mask_of-weak_bits flips ds = refl

pub length-weak_bits : (flips : ℕ) (ds : List ℤ) → length (weak_bits flips ds) ≡ length ds
length-weak_bits flips ds = length-map (enumerate_from 0 ds) (λ e. nat_lt (rank_of e ds) flips) ∙ length-enumerate_from 0 ds

pub get_or-weak_bits : (flips : ℕ) (ds : List ℤ) (m : ℕ) (d : Bool) → m < length ds
    → get_or (weak_bits flips ds) m d ≡ nat_lt (rank_of (m, get_or ds m (pos 0)) ds) flips
get_or-weak_bits flips ds m d inside =
    let is_weak : ℕ × ℤ → Bool = λ e. nat_lt (rank_of e ds) flips in
    get_or-map is_weak (enumerate_from 0 ds) m (0, pos 0) d (omega (arith, length-enumerate_from 0 ds))
    ∙ ap is_weak (get_or-enumerate_from 0 ds m (0, pos 0) inside ∙ ap (λ k. (k, get_or ds m (pos 0))) (omega arith))

-- one difference more is counted
pub rank_of-more : (e : ℕ × ℤ) (ds : List ℤ) (i : ℕ) → i < length ds
    → count_by (λ d. comes_before d e) (take (i + 1) (enumerate_from 0 ds))
    ≡ count_by (λ d. comes_before d e) (take i (enumerate_from 0 ds)) + cond (comes_before (i, get_or ds i (pos 0)) e) 1 0
rank_of-more e ds i inside =
    let counts : ℕ × ℤ → ℕ = λ d. cond (comes_before d e) 1 0 in
    let so_far = count_by (λ d. comes_before d e) (take i (enumerate_from 0 ds)) in
    sum_by_more counts (enumerate_from 0 ds) i (0, pos 0) (omega (arith, length-enumerate_from 0 ds))
    ∙ ap (λ d. so_far + counts d) (get_or-enumerate_from 0 ds i (0, pos 0) inside ∙ ap (λ k. (k, get_or ds i (pos 0))) (omega arith))
