-- Whether a gap is open before and after a byte.
use Rattle.std.proofs.Common.{◌≡◌, ℕ, ◌+◌, ◌-◌, ◌≤◌, List, [], ◌∷◌, ◌++◌, length, refl, sym, ◌∙◌, ap, arith, length-append, Bool, true, false, inl, inr, cond, slice_index}
use Rattle.std.proofs.lemmas.Bool.{lt-ltb, le-ltb, eqb-true, and_parts, cases_Bool}
use Rattle.std.proofs.lemmas.Bool.Decides.{leb_tells, eqb_tells}
use Rattle.std.proofs.Math.Bool.{and-false, and-true}
use Rattle.std.specs.Prelude.{◌&&◌, ◌||◌, ◌==◌, nat_lt}
use Rattle.std.specs.Int.{w16}
use Rattle.hk_spec_streams.specs.Grammar.{packet_size}
use Rattle.hk_spec_streams.specs.Station.{DATA, FENCE, GAP}
use Rattle.hk_station_wire.specs.LastPacket.{last_packet, gap_is_open}
use Rattle.hk_spec_streams.proofs.GrowingPackets.{over}
use Rattle.hk_station_wire.proofs.GrowingSegments.{last_packet-next}
use Rattle.hk_station_wire.specs.declared.reader.Part.TheVariants.{Data, FenceEnd, GapBegin, GapEnd, Other}
use Rattle.hk_station_wire.proofs.MeetsFault.{true_isnt_false}
use Rattle.hk_station_wire.proofs.Parts.{Says}

abbrev open_in : List ℕ → Bool
open_in bytes = (slice_index bytes 0 == GAP) && nat_lt (length bytes) 3

some_byte : (x : ℕ) (bytes : List ℕ) → ((length (x ∷ bytes) == 0) || false) ≡ false
some_byte x bytes = elim (eqb_tells (length (x ∷ bytes)) 0) [ inl none ↦ absurd (omega (arith, none.1)) | inr isnt ↦ ap (λ c. c || false) isnt.0 ]

-- no gap is open where the next byte begins a packet
closed : (bytes : List ℕ) → over (packet_size w16) bytes ≡ true → open_in bytes ≡ false
closed [] is = refl
closed (x ∷ bytes) is = elim (leb_tells 3 (length (x ∷ bytes))) [
  | inl long ↦ ap (λ c. (x == GAP) && c) (le-ltb (length (x ∷ bytes)) 3 long.1) ∙ and-false (x == GAP)
  | inr short ↦ elim (eqb_tells (packet_size w16 (x ∷ bytes)) (length (x ∷ bytes))) [
    | inl same ↦ absurd (omega (arith, same.1, short.1))
    | inr other ↦ absurd (true_isnt_false (sym is ∙ ap (λ c. (length (x ∷ bytes) == 0) || c) other.0 ∙ some_byte x bytes))
  ]
]

abbrev open_before : ℕ → ℕ → Bool
open_before kind count = cond (count == 1) false ((kind == GAP) && nat_lt (count - 1) 3)

abbrev open_after : ℕ → ℕ → Bool
open_after kind count = (kind == GAP) && nat_lt count 3

goes_on : (bytes : List ℕ) (b : ℕ) → over (packet_size w16) bytes ≡ false → open_in bytes ≡ open_before (slice_index (bytes ++ b ∷ []) 0) (length (bytes ++ b ∷ []))
goes_on [] b part = absurd (true_isnt_false part)
goes_on (x ∷ bytes) b part =
    let long : length (x ∷ (bytes ++ b ∷ [])) ≡ length (x ∷ bytes) + 1 = length-append (x ∷ bytes) (b ∷ []) in
    let before : length (x ∷ (bytes ++ b ∷ [])) - 1 ≡ length (x ∷ bytes) = omega (arith, long) in
    let not_one : (length (x ∷ (bytes ++ b ∷ [])) == 1) ≡ false = elim (eqb_tells (length (x ∷ (bytes ++ b ∷ []))) 1) [ inl one ↦ absurd (omega (arith, one.1, long)) | inr isnt ↦ isnt.0 ] in
    sym (ap (λ c. cond c false ((x == GAP) && nat_lt (length (x ∷ (bytes ++ b ∷ [])) - 1) 3)) not_one ∙ ap (λ n. (x == GAP) && nat_lt n 3) before)

either_false : (c : Bool) → cond c false false ≡ false
either_false true = refl
either_false false = refl

same_side : (count : ℕ) → (count == 1) ≡ false → (count == 3) ≡ false → nat_lt count 3 ≡ nat_lt (count - 1) 3
same_side count not_one not_three = elim (leb_tells (count + 1) 3) [
  | inl less ↦ lt-ltb count 3 (omega (arith, less.1)) ∙ sym (lt-ltb (count - 1) 3 (omega (arith, less.1)))
  | inr more ↦ elim (eqb_tells count 3) [
    | inl three ↦ absurd (true_isnt_false (sym three.0 ∙ not_three))
    | inr other ↦ le-ltb count 3 (omega (arith, more.1)) ∙ sym (le-ltb (count - 1) 3 (omega (arith, more.1, other.1)))
  ]
]

pub gap_before : (text : List ℕ) (b : ℕ) → 6 ≤ length text
    → gap_is_open text ≡ open_before (slice_index (last_packet (text ++ b ∷ [])) 0) (length (last_packet (text ++ b ∷ [])))
gap_before text b late = elim (cases_Bool (over (packet_size w16) (last_packet text))) [
  | inl begins ↦
      let alone : last_packet (text ++ b ∷ []) ≡ b ∷ [] = last_packet-next text b late ∙ ap (λ c. cond c (b ∷ []) (last_packet text ++ b ∷ [])) begins in
      closed (last_packet text) begins ∙ sym (ap (λ bytes. open_before (slice_index bytes 0) (length bytes)) alone)
  | inr goes ↦
      let more : last_packet (text ++ b ∷ []) ≡ last_packet text ++ b ∷ [] = last_packet-next text b late ∙ ap (λ c. cond c (b ∷ []) (last_packet text ++ b ∷ [])) goes in
      goes_on (last_packet text) b goes ∙ sym (ap (λ bytes. open_before (slice_index bytes 0) (length bytes)) more)
]

no_gap_kind : (kind count : ℕ) → (kind == GAP) ≡ false → (open_before kind count ≡ false) × (open_after kind count ≡ false)
no_gap_kind kind count isnt =
    (ap (λ c. cond (count == 1) false (c && nat_lt (count - 1) 3)) isnt ∙ either_false (count == 1), ap (λ c. c && nat_lt count 3) isnt)

pub gap_of_data : (kind count : ℕ) → Says Data kind count → (open_before kind count ≡ false) × (open_after kind count ≡ false)
gap_of_data kind count says =
    let is : kind ≡ DATA = eqb-true _ _ (and_parts _ _ says.data_test).0 in
    no_gap_kind kind count (ap (λ k. k == GAP) is)

pub gap_of_fence : (kind count : ℕ) → Says FenceEnd kind count → (open_before kind count ≡ false) × (open_after kind count ≡ false)
gap_of_fence kind count says =
    let is : kind ≡ FENCE = eqb-true _ _ (and_parts _ _ says.fence_test).0 in
    no_gap_kind kind count (ap (λ k. k == GAP) is)

pub gap_of_begin : (kind count : ℕ) → Says GapBegin kind count → (open_before kind count ≡ false) × (open_after kind count ≡ true)
gap_of_begin kind count says =
    let one : count ≡ 1 = eqb-true _ _ (and_parts _ _ says.begin_test).0 in
    let is : kind ≡ GAP = eqb-true _ _ (and_parts _ _ says.begin_test).1 in
    (ap (open_before kind) one, ap (open_after kind) one ∙ ap (λ k. open_after k 1) is)

pub gap_of_end : (kind count : ℕ) → Says GapEnd kind count → (open_before kind count ≡ true) × (open_after kind count ≡ false)
gap_of_end kind count says =
    let three : count ≡ 3 = eqb-true _ _ (and_parts _ _ says.end_test).0 in
    let is : kind ≡ GAP = eqb-true _ _ (and_parts _ _ says.end_test).1 in
    (ap (open_before kind) three ∙ ap (λ k. open_before k 3) is, ap (open_after kind) three ∙ ap (λ k. open_after k 3) is)

pub gap_of_other : (kind count : ℕ) → Says Other kind count → open_after kind count ≡ open_before kind count
gap_of_other kind count says = elim (eqb_tells kind GAP) [
  | inr other ↦ let none = no_gap_kind kind count other.0 in none.1 ∙ sym none.0
  | inl gap ↦
      let not_one : (count == 1) ≡ false = sym (and-true (count == 1)) ∙ ap (λ c. (count == 1) && c) (sym gap.0) ∙ says.begin_test in
      let not_three : (count == 3) ≡ false = sym (and-true (count == 3)) ∙ ap (λ c. (count == 3) && c) (sym gap.0) ∙ says.end_test in
      ap (λ c. (kind == GAP) && c) (same_side count not_one not_three) ∙ sym (ap (λ c. cond c false ((kind == GAP) && nat_lt (count - 1) 3)) not_one)
]
