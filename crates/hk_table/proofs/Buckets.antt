-- How many buckets there are, and that each word's bucket is one of them.
use Rattle.std.proofs.Common.{◌≡◌, ℕ, ◌+◌, ◌-◌, ◌*◌, ◌%◌, ◌^◌, ◌<◌, ◌≤◌, nat_lt, get_or, refl, ap, sym, subst, ◌∙◌, arith}
use Rattle.std.specs.List.{range_with_len, prefix_len}
use Rattle.std.proofs.Math.Nat.{mod-lt, mod-eq_of_lt}
use Rattle.std.proofs.lemmas.Bool.{lt-ltb, le-ltb}
use Rattle.std.proofs.lemmas.Nat.{shr_below, pow_below}
use Rattle.std.proofs.lemmas.List.FromFn.{get_or-range_with_len, length-range_with_len}
use Rattle.std.proofs.lemmas.List.Sums.{prefix_len_is, prefix_len-le-length}
use Rattle.hk_spec_matching.specs.Buckets.{bucket_bits, bucket_of}
use Rattle.hk_table.specs.Songs.{bucket_at}

-- the first number of bits that suffices
pub bits_are : (positions bits : ℕ) → 8 ≤ bits → bits ≤ 20 → ((b : ℕ) → 8 ≤ b → b < bits → 2 ^ b < positions) → (bits < 20 → positions ≤ 2 ^ bits)
    → bits ≡ bucket_bits positions
unfolding bucket_bits
bits_are positions bits least most before here =
    let n : ℕ = bits - 8 in
    let at : (k : ℕ) → k < 12 → get_or (range_with_len 8 12) k 0 ≡ 8 + k = λ k low. get_or-range_with_len 8 12 k 0 low in
    let is : prefix_len (λ b. nat_lt (2 ^ b) positions) (range_with_len 8 12) ≡ n =
    prefix_len_is (λ b. nat_lt (2 ^ b) positions) (range_with_len 8 12) n 0 (omega (arith, most, length-range_with_len 8 12))
    (λ k low. ap (λ b. nat_lt (2 ^ b) positions) (at k (omega (arith, low, most)))
    ∙ lt-ltb (2 ^ (8 + k)) positions (before (8 + k) (omega arith) (omega (arith, low))))
    (λ low. let few : n < 12 = omega (arith, low, length-range_with_len 8 12) in
    let whole : 8 + n ≡ bits = omega (arith, least) in
    ap (λ b. nat_lt (2 ^ b) positions) (at n few ∙ whole) ∙ le-ltb (2 ^ bits) positions (here (omega (arith, few)))) in
    omega (arith, is, least)

pub least_bits : (positions : ℕ) → 8 ≤ bucket_bits positions
unfolding bucket_bits
least_bits positions = omega arith

pub most_bits : (positions : ℕ) → bucket_bits positions ≤ 20
unfolding bucket_bits
most_bits positions =
    omega (arith, prefix_len-le-length (λ b. nat_lt (2 ^ b) positions) (range_with_len 8 12), length-range_with_len 8 12)

pub is_bucket : (positions word : ℕ) → bucket_at (32 - bucket_bits positions) word ≡ bucket_of positions word
unfolding bucket_of
is_bucket positions word = refl

pub bucket_low : (bits shift word : ℕ) → bits + shift ≡ 32 → bucket_at shift word < 2 ^ bits
bucket_low bits shift word sum =
    shr_below (word * 2654435761 % 2 ^ 32) bits shift
    (subst (λ n. word * 2654435761 % 2 ^ 32 < 2 ^ n) (sym sum) (mod-lt (word * 2654435761) (omega arith)))

-- a shift that loses no bit
pub one_shifted : (bits : ℕ) → bits < 32 → 1 * 2 ^ bits % 4294967296 ≡ 2 ^ bits
one_shifted bits low = mod-eq_of_lt (omega (arith, pow_below bits 32 low)) ∙ omega arith
