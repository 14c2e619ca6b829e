-- What the parts of a packet tell of its kind and of how many of its bytes came.
use Rattle.std.proofs.Common.{◌≡◌, ℕ, refl, sym, subst, Bool, true, false, inl, inr, cond}
use Rattle.std.proofs.Math.Bool.{and-false}
use Rattle.std.proofs.lemmas.Bool.Decides.{eqb_tells}
use Rattle.std.specs.Prelude.{◌&&◌, ◌==◌, nat_lt}
use Rattle.hk_spec_streams.specs.Station.{DATA, FENCE, GAP}
use Rattle.hk_station_wire.specs.declared.reader.Part.{Part}
use Rattle.hk_station_wire.specs.declared.reader.Part.TheVariants.{Data, FenceEnd, GapBegin, GapEnd, Other}
use Rattle.hk_station_wire.specs.Steps.{part_of}

abbrev pub is_data : Part → Bool
is_data Data = true
is_data FenceEnd = false
is_data GapBegin = false
is_data GapEnd = false
is_data Other = false

abbrev pub is_fence_end : Part → Bool
is_fence_end Data = false
is_fence_end FenceEnd = true
is_fence_end GapBegin = false
is_fence_end GapEnd = false
is_fence_end Other = false

abbrev pub is_gap_begin : Part → Bool
is_gap_begin Data = false
is_gap_begin FenceEnd = false
is_gap_begin GapBegin = true
is_gap_begin GapEnd = false
is_gap_begin Other = false

abbrev pub is_gap_end : Part → Bool
is_gap_end Data = false
is_gap_end FenceEnd = false
is_gap_end GapBegin = false
is_gap_end GapEnd = true
is_gap_end Other = false

-- these are the four tests for this part
pub record Tests (part : Part) (data_byte fence_end gap_begin gap_end : Bool) : Type 0 where
  pub data_test : data_byte ≡ is_data part
  pub fence_test : fence_end ≡ is_fence_end part
  pub begin_test : gap_begin ≡ is_gap_begin part
  pub end_test : gap_end ≡ is_gap_end part

abbrev pub Says : Part → ℕ → ℕ → Type 0
Says part kind count = Tests part ((kind == DATA) && nat_lt 3 count) ((kind == FENCE) && (count == 7)) ((count == 1) && (kind == GAP)) ((count == 3) && (kind == GAP))

says_data : (a b c : Bool) → Tests (cond a Data Other) a false (b && false) (c && false)
says_data true b c = record { data_test = refl; fence_test = refl; begin_test = and-false b; end_test = and-false c }
says_data false b c = record { data_test = refl; fence_test = refl; begin_test = and-false b; end_test = and-false c }

says_fence : (a b c : Bool) → Tests (cond a FenceEnd Other) false a (b && false) (c && false)
says_fence true b c = record { data_test = refl; fence_test = refl; begin_test = and-false b; end_test = and-false c }
says_fence false b c = record { data_test = refl; fence_test = refl; begin_test = and-false b; end_test = and-false c }

says_none : (b c : Bool) → Tests Other false false (b && false) (c && false)
says_none b c = record { data_test = refl; fence_test = refl; begin_test = and-false b; end_test = and-false c }

says_end : (c : Bool) → Tests (cond c GapEnd Other) false false false (c && true)
says_end true = record { data_test = refl; fence_test = refl; begin_test = refl; end_test = refl }
says_end false = record { data_test = refl; fence_test = refl; begin_test = refl; end_test = refl }

says_gap : (count : ℕ) → Says (part_of 3 GAP count) GAP count
says_gap count = elim (eqb_tells count 1) [
  | inl one ↦ let P : ℕ → Type 0 = λ n. Says (part_of 3 GAP n) GAP n in
      subst P (sym one.1) (record { data_test = refl; fence_test = refl; begin_test = refl; end_test = refl })
  | inr more ↦ let P : Bool → Type 0 = λ c. Tests (cond c GapBegin (cond (count == 3) GapEnd Other)) false false (c && true) ((count == 3) && true) in
      subst P (sym more.0) (says_end (count == 3))
]

says_other : (kind count : ℕ) → (kind == DATA) ≡ false → (kind == FENCE) ≡ false → (kind == GAP) ≡ false → Says (part_of 3 kind count) kind count
says_other kind count a b c =
    let P : Bool → Bool → Bool → Type 0 = λ d f g. Tests
    (cond (d && nat_lt 3 count) Data (cond (f && (count == 7)) FenceEnd (cond (g && (count == 1)) GapBegin (cond (g && (count == 3)) GapEnd Other))))
    (d && nat_lt 3 count) (f && (count == 7)) ((count == 1) && g) ((count == 3) && g) in
    subst (λ d. P d (kind == FENCE) (kind == GAP)) (sym a)
    (subst (λ f. P false f (kind == GAP)) (sym b) (subst (λ g. P false false g) (sym c) (says_none (count == 1) (count == 3))))

pub says : (kind count : ℕ) → Says (part_of 3 kind count) kind count
says kind count = elim (eqb_tells kind DATA) [
  | inl one ↦ let P : ℕ → Type 0 = λ k. Says (part_of 3 k count) k count in subst P (sym one.1) (says_data (nat_lt 3 count) (count == 1) (count == 3))
  | inr not_data ↦ elim (eqb_tells kind FENCE) [
    | inl two ↦ let P : ℕ → Type 0 = λ k. Says (part_of 3 k count) k count in subst P (sym two.1) (says_fence (count == 7) (count == 1) (count == 3))
    | inr not_fence ↦ elim (eqb_tells kind GAP) [
      | inl three ↦ let P : ℕ → Type 0 = λ k. Says (part_of 3 k count) k count in subst P (sym three.1) (says_gap count)
      | inr not_gap ↦ says_other kind count not_data.0 not_fence.0 not_gap.0
    ]
  ]
]
