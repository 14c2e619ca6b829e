-- The next greater subset of a mask.
use Rattle.std.proofs.Common.{◌≡◌, ◌∙◌, ℕ, zero, suc, ◌+◌, ◌-◌, ◌*◌, ◌/◌, ◌%◌, ◌^◌, ◌<◌, ◌≤◌, ◌==◌, ◌∷◌, Bool, true, false, cond, inl, inr, refl, sym, ap, arith, Some, None}
use Rattle.std.specs.Int.Bits.{bit_and}
use Rattle.std.specs.List.{filter, range_with_len}
use lib.Bits.{and_self}
use Rattle.std.proofs.lemmas.Nat.{and_le_l, and_le_r, and_comm, and_mask, and_shr, and_mod, and_assoc, and-not}
use Rattle.std.proofs.lemmas.Bool.{cases_eq, ne_eqb}
use Rattle.std.proofs.lemmas.Bool.Decides.{nat_tests}
use Rattle.hk_spec_matching.specs.Cost.{subsets}
use Rattle.hk_weak.specs.Left.{subsets_from}

abbrev pub IsSubset : ℕ → ℕ → Type 0
IsSubset s m = bit_and s m ≡ s

-- ---- bits

and_by_halves : (a b : ℕ) → bit_and a b ≡ bit_and (a / 2) (b / 2) * 2 + bit_and (a % 2) (b % 2)
and_by_halves a b = omega (arith, and_shr a b 1, and_mod a b 1)

half_is_subset : (s m : ℕ) → IsSubset s m → IsSubset (s / 2) (m / 2)
half_is_subset s m inside = sym (and_shr s m 1) ∙ ap (λ n. n / 2) inside

lowest_bit : (s m : ℕ) → IsSubset s m → s % 2 ≤ m % 2
lowest_bit s m inside = omega (arith, and_mod s m 1, and_le_r (s % 2) (m % 2), inside)

one_and : (m : ℕ) → bit_and 1 (m % 2) ≡ m % 2
one_and m = and_comm 1 (m % 2) ∙ and_mask (m % 2) 1 ∙ omega arith

-- below a subset d no subset is greater than the bits of d - 1 in the mask
greatest_below : (n d m u : ℕ) → d < 2 ^ n → IsSubset d m → IsSubset u m → u < d → u ≤ bit_and (d - 1) m
greatest_below zero d m u low d_inside u_inside less = omega arith
greatest_below (suc n) d m u low d_inside u_inside less =
    let halves = and_by_halves (d - 1) m in
    let half_inside = half_is_subset d m d_inside in
    elim (cases_eq (d % 2) 0) as (λ _. u ≤ bit_and (d - 1) m) [
      | inl even ↦
          let low_half : d / 2 < 2 ^ n = omega (arith, low) in
          let lower : u / 2 ≤ bit_and (d / 2 - 1) (m / 2) =
          greatest_below n (d / 2) (m / 2) (u / 2) low_half half_inside (half_is_subset u m u_inside) (omega arith) in
          let half : (d - 1) / 2 ≡ d / 2 - 1 = omega arith in
          let odd : (d - 1) % 2 ≡ 1 = omega arith in
          let upper : bit_and ((d - 1) / 2) (m / 2) ≡ bit_and (d / 2 - 1) (m / 2) = ap (λ h. bit_and h (m / 2)) half in
          let rest : bit_and ((d - 1) % 2) (m % 2) ≡ m % 2 = ap (λ b. bit_and b (m % 2)) odd ∙ one_and m in
          omega (arith, lowest_bit u m u_inside)
      | inr odd ↦
          let half : (d - 1) / 2 ≡ d / 2 = omega arith in
          let upper : bit_and ((d - 1) / 2) (m / 2) ≡ d / 2 = ap (λ h. bit_and h (m / 2)) half ∙ half_inside in
          omega arith
    ]

-- the bits of a mask that a subset leaves out
left_out_is_subset : (w s m : ℕ) → s < 2 ^ w → m < 2 ^ w → IsSubset s m → IsSubset (m - s) m
left_out_is_subset w s m s_low m_low inside =
    let whole = bit_and (2 ^ w - 1 - s) m in
    let is : whole ≡ m - s = omega (arith, and-not w s m s_low m_low) in
    ap (λ n. bit_and n m) (sym is) ∙ and_assoc m (2 ^ w - 1 - s) m ∙ ap (λ n. bit_and (2 ^ w - 1 - s) n) (and_self m) ∙ is

-- ---- lists

-- numbers that fail a test may be left out
skip_to : (p : ℕ → Bool) (gap a n b rest : ℕ) → n ≡ gap + rest → b ≡ a + gap
    → ((u : ℕ) → a ≤ u → u < b → p u ≡ false) → filter p (range_with_len a n) ≡ filter p (range_with_len b rest)
skip_to p zero a n b rest count start none =
    ap (λ k. filter p (range_with_len a k)) (omega arith) ∙ ap (λ k. filter p (range_with_len k rest)) (omega arith)
skip_to p (suc gap) a n b rest count start none =
    let more : n ≡ suc (gap + rest) = omega arith in
    ap (λ k. filter p (range_with_len a k)) more
    ∙ ap (λ passes. cond passes (a ∷ filter p (range_with_len (a + 1) (gap + rest))) (filter p (range_with_len (a + 1) (gap + rest)))) (none a (omega arith) (omega arith))
    ∙ skip_to p gap (a + 1) (gap + rest) b rest refl (omega arith) (λ u low high. none u (omega arith) high)

-- a subset is the first of those from it on
first_from : (m s rest : ℕ) → IsSubset s m → m + 1 - s ≡ suc rest
    → subsets_from (record { mask = m }) (Some s) ≡ s ∷ filter (λ u. bit_and u m == u) (range_with_len (s + 1) rest)
unfolding subsets_from
first_from m s rest inside count =
    let p : ℕ → Bool = λ u. bit_and u m == u in
    let kept : p s ≡ true = grind (arith, nat_tests) in
    ap (λ n. filter p (range_with_len s n)) count
    ∙ ap (λ passes. cond passes (s ∷ filter p (range_with_len (s + 1) rest)) (filter p (range_with_len (s + 1) rest))) kept

pub subsets_from-first : (m : ℕ) → subsets_from (record { mask = m }) (Some 0) ≡ subsets (record { mask = m })
unfolding subsets_from subsets
subsets_from-first m = let p : ℕ → Bool = λ u. bit_and u m == u in ap (λ n. filter p (range_with_len 0 n)) (omega arith)

pub subsets_from-last : (m s : ℕ) → IsSubset s m → m ≤ s → subsets_from (record { mask = m }) (Some s) ≡ s ∷ subsets_from (record { mask = m }) None
unfolding subsets_from
subsets_from-last m s inside last = first_from m s 0 inside (omega (arith, and_le_r s m))

-- the next subset leaves out what d - 1 has of the mask, where this one leaves out d
pub subsets_from-next : (w m s t : ℕ) → m < 2 ^ w → IsSubset s m → s < m → t ≡ m - bit_and (m - s - 1) m
    → (subsets_from (record { mask = m }) (Some s) ≡ s ∷ subsets_from (record { mask = m }) (Some t)) × IsSubset t m
unfolding subsets_from
subsets_from-next w m s t m_low inside less is =
    let p : ℕ → Bool = λ u. bit_and u m == u in
    let left = bit_and (m - s - 1) m in
    let left_inside : IsSubset left m = and_assoc m (m - s - 1) m ∙ ap (bit_and (m - s - 1)) (and_self m) in
    let next_inside : IsSubset t m = ap (λ n. bit_and n m) is ∙ left_out_is_subset w left m (omega (arith, and_le_r (m - s - 1) m)) m_low left_inside ∙ sym is in
    let later : s < t = omega (arith, and_le_l (m - s - 1) m, and_le_r (m - s - 1) m) in
    let within : t ≤ m = omega arith in
    let none : (u : ℕ) → s + 1 ≤ u → u < t → p u ≡ false = λ u above below.
    ne_eqb (bit_and u m) u (λ u_inside.
    let d_low : m - s < 2 ^ w = omega arith in
    let u_low : u < 2 ^ w = omega arith in
    let most = greatest_below w (m - s) m (m - u) d_low (left_out_is_subset w s m (omega arith) m_low inside) (left_out_is_subset w u m u_low m_low u_inside) (omega arith) in
    omega arith) in (
      first_from m s (m - s) inside (omega arith)
          ∙ ap (λ us. s ∷ us) (skip_to p (t - s - 1) (s + 1) (m - s) t (m + 1 - t) (omega arith) (omega arith) none),
      next_inside,
    )
