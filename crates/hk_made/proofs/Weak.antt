-- So many weak bits from one on, round the word.
use Rattle.std.proofs.Common.{◌≡◌, ℕ, ◌+◌, ◌%◌, ◌^◌, ◌<◌, ◌≤◌, map, sum, ap, sym, ◌∙◌, arith, Bool, true, nat_lt, refl}
use Rattle.std.specs.List.{range_with_len, list_all}
use Rattle.std.proofs.lemmas.List.Sums.{sum-map}
use Rattle.std.proofs.lemmas.Bool.{ltb-true}
use Rattle.hk_made.proofs.Ranges.{sum_by-more, each_below}

abbrev pub bit_value : ℕ → ℕ → ℕ
bit_value bit i = 2 ^ ((bit + i) % 32)

abbrev pub weak_sum : ℕ → ℕ → ℕ
weak_sum bit flips = sum (map (bit_value bit) (range_with_len 0 flips))

pub weak_sum-more : (bit i : ℕ) → weak_sum bit (i + 1) ≡ weak_sum bit i + 2 ^ ((bit + i) % 32)
weak_sum-more bit i =
    sum-map (bit_value bit) (range_with_len 0 (i + 1)) ∙ sum_by-more (bit_value bit) i
    ∙ sym (ap (λ n. n + bit_value bit i) (sum-map (bit_value bit) (range_with_len 0 i)))

abbrev pub fits : ℕ → ℕ → Bool
fits bit flips = nat_lt (weak_sum bit flips) (2 ^ 32)

all_fit : list_all (λ bit. list_all (fits bit) (range_with_len 0 11)) (range_with_len 0 32) ≡ true
all_fit = refl

-- the sum is a word
pub weak_sum-fits : (bit flips : ℕ) → bit < 32 → flips ≤ 10 → weak_sum bit flips < 2 ^ 32
weak_sum-fits bit flips inside few =
    ltb-true (weak_sum bit flips) (2 ^ 32)
    (each_below (fits bit) 11 flips (each_below (λ b. list_all (fits b) (range_with_len 0 11)) 32 bit all_fit inside) (omega arith))
