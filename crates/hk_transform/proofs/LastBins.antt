-- The last stage, item by item.
use Rattle.std.proofs.Common.{◌≡◌, ◌≢◌, ℕ, ℤ, pos, ◌+◌, ◌*◌, ◌^◌, ◌<◌, List, ◌++◌, length, map, get_or, set, ap, sym, ◌∙◌, arith, inl, inr, get_or-set_same, get_or-set_other}
use Rattle.std.specs.List.{zip}
use Rattle.std.proofs.lemmas.Bool.{cases_eq}
use Rattle.std.proofs.lemmas.List.{get_or_append_left, get_or-append-add}
use Rattle.hk_spec_sound.specs.Circle.{quarter, direction, cos_of, sin_of}
use Rattle.hk_spec_sound.specs.Spectrum.{Complex, complexes, plus, minus, turned_back, evens, odds, transform}
use Rattle.hk_spec_sound.proofs.Spectra.{paired}
use Rattle.hk_spec_sound.proofs.Halves.{length-evens, length-odds}
use Rattle.hk_transform.specs.declared.item.Item.{Item}
use Rattle.hk_transform.specs.Items.{value}
use Rattle.hk_transform.specs.Joined.{all_turned, sums, half_differences}
use Rattle.hk_transform.specs.Parts.{halves_of}
use Rattle.hk_transform.proofs.Joining.{at, at-complexes, transform-joined, joined_at, length-sums}
use Rattle.hk_transform.proofs.Blocks.{length-transform}

-- what joins item k of both halves
abbrev pub joined_by : (Complex × Complex → Complex) → List ℤ → List ℤ → ℕ → Complex
joined_by step re im k = step (at re im k, turned_back (direction (quarter 9) k) (at re im (1024 + k)))

-- the items that are read of both halves, and the numbers of the last stage
pub read_joined : (step : Complex × Complex → Complex) (re im : List ℤ) (k : ℕ) (cos sin : ℤ) (even odd : Item)
    → cos ≡ cos_of (quarter 9) (k * 1) → sin ≡ sin_of (quarter 9) (k * 1)
    → even.re ≡ get_or re k (pos 0) → even.im ≡ get_or im k (pos 0) → odd.re ≡ get_or re (1024 + k) (pos 0) → odd.im ≡ get_or im (1024 + k) (pos 0)
    → step (value even, turned_back (cos, sin) (value odd)) ≡ joined_by step re im k
read_joined step re im k cos sin even odd cos_is sin_is even_re even_im odd_re odd_im =
    let same : k * 1 ≡ k = omega arith in
    let toward : (cos, sin) ≡ direction (quarter 9) k =
    ap (λ x. (x, sin)) cos_is ∙ ap (λ y. (cos_of (quarter 9) (k * 1), y)) sin_is ∙ ap (direction (quarter 9)) same in
    let even_is : value even ≡ at re im k = ap (λ z. paired (z, even.im)) even_re ∙ ap (λ z. paired (get_or re k (pos 0), z)) even_im in
    let odd_is : value odd ≡ at re im (1024 + k) = ap (λ z. paired (z, odd.im)) odd_re ∙ ap (λ z. paired (get_or re (1024 + k) (pos 0), z)) odd_im in
    ap (λ t. step (value even, turned_back t (value odd))) toward
    ∙ ap (λ e. step (e, turned_back (direction (quarter 9) k) (value odd))) even_is
    ∙ ap (λ o. step (at re im k, turned_back (direction (quarter 9) k) o)) odd_is

-- one step of the stage, by the items of both halves
stepped : (step : Complex × Complex → Complex) (e o : List Complex) (re im : List ℤ) (k : ℕ) (d : Complex)
    → length e ≡ 1024 → length o ≡ 1024 → length re ≡ 2048 → length im ≡ 2048 → complexes re im ≡ e ++ o → k < 1024
    → get_or (map step (zip e (all_turned (quarter 9) 1 o))) k d ≡ joined_by step re im k
stepped step e o re im k d e_len o_len re_len im_len is below =
    let same : k * 1 ≡ k = omega arith in
    let first : get_or e k d ≡ at re im k =
    sym (get_or_append_left e o d k (omega (arith, e_len, below)))
    ∙ ap (λ y. get_or y k d) (sym is)
    ∙ at-complexes re im k d (omega (arith, re_len, below)) (omega (arith, im_len, below)) in
    let second : get_or o k d ≡ at re im (1024 + k) =
    sym (get_or-append-add e o k d)
    ∙ ap (λ n. get_or (e ++ o) (n + k) d) e_len
    ∙ ap (λ y. get_or y (1024 + k) d) (sym is)
    ∙ at-complexes re im (1024 + k) d (omega (arith, re_len, below)) (omega (arith, im_len, below)) in
    joined_at step (quarter 9) 1 e o k d (omega (arith, e_len, below)) (omega (arith, o_len, below))
    ∙ ap (λ j. step (get_or e k d, turned_back (direction (quarter 9) j) (get_or o k d))) same
    ∙ ap (λ x. step (x, turned_back (direction (quarter 9) k) (get_or o k d))) first
    ∙ ap (λ y. step (at re im k, turned_back (direction (quarter 9) k) y)) second

-- bins k and 1024 + k
pub last_bins : (items : List Complex) (re im : List ℤ) (k : ℕ) (d : Complex)
    → length items ≡ 2048 → length re ≡ 2048 → length im ≡ 2048 → complexes re im ≡ halves_of 10 items → k < 1024
    → (joined_by plus re im k ≡ get_or (transform (quarter 9) 11 items) k d) × (joined_by minus re im k ≡ get_or (transform (quarter 9) 11 items) (1024 + k) d)
unfolding halves_of sums half_differences
last_bins items re im k d len re_len im_len is below =
    let e = transform (quarter 9) 10 (evens items) in
    let o = transform (quarter 9) 10 (odds items) in
    let both : 2 ^ 10 + 2 ^ 10 ≡ length items = sym len in
    let e_len : length e ≡ 1024 = length-transform 10 (evens items) (length-evens items (2 ^ 10) both) in
    let o_len : length o ≡ 1024 = length-transform 10 (odds items) (length-odds items (2 ^ 10) both) in
    let s = sums (quarter 9) 1 e o in
    let h = half_differences (quarter 9) 1 e o in
    let s_len : length s ≡ 1024 = omega (arith, length-sums (quarter 9) 1 e o, e_len, o_len) in (
      sym (ap (λ y. get_or y k d) (transform-joined 10 items)
          ∙ get_or_append_left s h d k (omega (arith, s_len, below))
          ∙ stepped plus e o re im k d e_len o_len re_len im_len is below),
      sym (ap (λ y. get_or y (1024 + k) d) (transform-joined 10 items)
          ∙ ap (λ n. get_or (s ++ h) (n + k) d) (sym s_len)
          ∙ get_or-append-add s h k d
          ∙ stepped minus e o re im k d e_len o_len re_len im_len is below),
    )

-- two lists of parts of which one place is written: each place has what it is to have
pub bin_written : (re im : List ℤ) (k j : ℕ) (x y : ℤ) (bin : Complex) → k < length re → k < length im
    → (j ≡ k → paired (x, y) ≡ bin) → (j ≢ k → at re im j ≡ bin) → at (set re k x) (set im k y) j ≡ bin
bin_written re im k j x y bin in_re in_im written left =
    elim (cases_eq j k) [
      | inl here ↦
          ap (at (set re k x) (set im k y)) here
          ∙ ap (λ z. paired (z, get_or (set im k y) k (pos 0))) (get_or-set_same re k x (pos 0) in_re)
          ∙ ap (λ z. paired (x, z)) (get_or-set_same im k y (pos 0) in_im)
          ∙ written here
      | inr other ↦
          ap (λ z. paired (z, get_or (set im k y) j (pos 0))) (get_or-set_other re k j x (pos 0) other)
          ∙ ap (λ z. paired (get_or re j (pos 0), z)) (get_or-set_other im k j y (pos 0) other)
          ∙ left other
    ]
