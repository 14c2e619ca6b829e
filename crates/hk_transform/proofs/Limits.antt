-- How far a stage lets the parts grow.
use Rattle.std.proofs.Common.{◌≡◌, ℕ, suc, ◌+◌, ◌*◌, ◌^◌, ◌<◌, ◌≤◌, ℤ, pos, nat_abs, List, length, get_or, take, drop, subst, sym, ap, arith}
use Rattle.std.specs.List.{All}
use Rattle.std.proofs.Math.Nat.{pow-le-pow_right}
use Rattle.std.proofs.lemmas.List.{take_all}
use Rattle.std.proofs.lemmas.List.Elements.{All-take, All-drop, All-weaker, All-same}
use Rattle.hk_spec_sound.specs.Spectrum.{AreBelow}
use Rattle.hk_transform.specs.declared.item.Item.{Item}
use Rattle.hk_transform.specs.Items.{IsBelow}
use Rattle.hk_transform.specs.Joined.{HalvesBelow}
use Rattle.hk_transform.proofs.Joining.{below_at}
use Rattle.hk_transform.proofs.Blocks.{rows_fit}

-- the limit of the parts after a stage is three times the one before
pub grown : (s : ℕ) → 3 * (3 ^ s * 32769) ≡ 3 ^ (s + 1) * 32769
grown s =
    let next : s + 1 ≡ suc s = omega arith in
    let power : 3 ^ suc s ≡ 3 * 3 ^ s = omega arith in
    omega (arith, power, ap (λ n. 3 ^ n) next)

-- before the last of ten stages three times a part still has 32 bits
pub narrow_within : (stages : ℕ) → stages ≤ 9 → 3 ^ stages * 32769 ≤ 5 * 2 ^ 27
narrow_within stages few =
    let power : 3 ^ stages ≤ 3 ^ 9 = pow-le-pow_right {n = 3} (omega arith) few in
    omega (arith, power)

-- both halves of what stays below a limit
pub halves_below : (limit half : ℕ) (re im even_re even_im odd_re odd_im : List ℤ)
    → even_re ≡ take half re → even_im ≡ take half im → odd_re ≡ drop half re → odd_im ≡ drop half im
    → AreBelow limit re → AreBelow limit im → HalvesBelow limit even_re even_im odd_re odd_im
halves_below limit half re im even_re even_im odd_re odd_im is_er is_ei is_or is_oi re_below im_below =
    let P : ℤ → Type 0 = λ z. nat_abs z < limit in
    record {
      even_re = All-same P even_re (take half re) is_er (All-take P half re re_below);
      even_im = All-same P even_im (take half im) is_ei (All-take P half im im_below);
      odd_re = All-same P odd_re (drop half re) is_or (All-drop P half re re_below);
      odd_im = All-same P odd_im (drop half im) is_oi (All-drop P half im im_below);
    }

-- the items that are read at a place of both halves
pub read_below : (limit k : ℕ) (even_re even_im odd_re odd_im : List ℤ) (even odd : Item)
    → even.re ≡ get_or even_re k (pos 0) → even.im ≡ get_or even_im k (pos 0) → odd.re ≡ get_or odd_re k (pos 0) → odd.im ≡ get_or odd_im k (pos 0)
    → k < length even_re → k < length even_im → k < length odd_re → k < length odd_im
    → HalvesBelow limit even_re even_im odd_re odd_im → IsBelow limit even × IsBelow limit odd
read_below limit k even_re even_im odd_re odd_im even odd er ei or oi in_er in_ei in_or in_oi below = (
  (omega (arith, ap nat_abs er, below_at limit even_re k in_er below.even_re), omega (arith, ap nat_abs ei, below_at limit even_im k in_ei below.even_im)),
  (omega (arith, ap nat_abs or, below_at limit odd_re k in_or below.odd_re), omega (arith, ap nat_abs oi, below_at limit odd_im k in_oi below.odd_im)),
)

-- the block that a stage of the first ten joins next
pub block_within : (s b half k : ℕ) (xs : List ℤ) → s ≤ 9 → AreBelow (3 ^ s * 32769) (drop (b * (half + half)) xs)
    → AreBelow (5 * 2 ^ 27) (take k (drop (b * (2 * half)) xs))
block_within s b half k xs few left =
    let twice : half + half ≡ 2 * half = omega arith in
    let P : ℤ → Type 0 = λ z. nat_abs z < 3 ^ s * 32769 in
    let Q : ℤ → Type 0 = λ z. nat_abs z < 5 * 2 ^ 27 in
    let rest = drop (b * (2 * half)) xs in
    All-weaker P Q (λ z h. omega (arith, h, narrow_within s few)) (take k rest) (All-take P k rest (subst (λ m. All P (drop (b * m) xs)) twice left))

-- where all blocks are done
pub all_done : (limit blocks b n : ℕ) (xs : List ℤ) → blocks ≤ b → length xs ≡ blocks * n → AreBelow limit (take (b * n) xs) → AreBelow limit xs
all_done limit blocks b n xs upto len done =
    let whole : blocks * n ≤ b * n = rows_fit blocks b n upto in
    All-same (λ z. nat_abs z < limit) xs (take (b * n) xs) (sym (take_all (b * n) xs (omega (arith, whole, len)))) done
