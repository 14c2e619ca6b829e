-- Where a text has no fault, its last packet's length is its kind's, so that no fence goes on behind its seventh byte.
use Rattle.std.proofs.Common.{◌≡◌, ℕ, ◌+◌, ◌-◌, ◌≤◌, List, [], ◌∷◌, ◌++◌, length, drop, refl, sym, ◌∙◌, ap, subst, arith, length-append, Bool, true, false, inl, inr, Option, None, Some, cond, slice_index}
use Rattle.std.proofs.lemmas.Bool.{eq-eqb, eqb-true, and_parts, cases_Bool}
use Rattle.std.proofs.lemmas.Bool.Decides.{leb_tells, eqb_tells}
use Rattle.std.proofs.Math.Bool.{or-true}
use Rattle.std.specs.Prelude.{◌&&◌, ◌||◌, ◌==◌, not}
use Rattle.std.specs.Option.{option_or}
use Rattle.std.specs.Int.{w16, w32, from_be_bytes}
use Rattle.hk_base.specs.declared.plain.WireFault.{WireFault}
use Rattle.hk_base.specs.declared.plain.WireFault.TheVariants.{BadKind, BadLength}
use Rattle.hk_spec_streams.specs.Pieces.{first_that_holds, last_bytes}
use Rattle.hk_spec_streams.specs.Grammar.{packet_size}
use Rattle.hk_spec_streams.specs.Station.{FENCE, Fence, station_met, station_fault, station_length_fits}
use Rattle.hk_station_wire.specs.LastPacket.{last_packet}
use Rattle.hk_spec_streams.proofs.NextFault.{by_bytes, fault_of-before}
use Rattle.hk_spec_streams.proofs.GrowingPackets.{over}
use Rattle.hk_station_wire.proofs.GrowingSegments.{packets_short, last_packet-next}
use Rattle.hk_station_wire.proofs.GrowingFences.{fence_in}
use Rattle.hk_wire.specs.declared.packet.LengthSize.TheVariants.{Two}
use Rattle.hk_wire.specs.Held.{length_in}
use Rattle.hk_station_wire.specs.Steps.{is_kind, head_fault}
use Rattle.hk_station_wire.proofs.MeetsFault.{met_packet, met_room, true_isnt_false}

-- the packet's length is its kind's, once it is there
abbrev pub Fits : List ℕ → Type 0
Fits bytes = 3 ≤ length bytes → station_length_fits (slice_index bytes 0) (length_in Two bytes) ≡ true

fits_more : (bytes : List ℕ) (b : ℕ) → 3 ≤ length bytes → Fits bytes → Fits (bytes ++ b ∷ [])
fits_more [] b h fits = absurd (omega arith)
fits_more (x ∷ []) b h fits = absurd (omega arith)
fits_more (x ∷ y ∷ []) b h fits = absurd (omega arith)
fits_more (x ∷ y ∷ z ∷ bytes) b h fits = λ k. fits h

first_none : (o p : Option WireFault) → option_or o p ≡ None → o ≡ None
first_none None p is = refl
first_none (Some f) p is = absurd (cc)

second_row : (a c : Bool) (A C : WireFault) → first_that_holds ((a, A) ∷ (c, C) ∷ []) ≡ None → c ≡ false
second_row true c A C is = absurd (cc)
second_row false true A C is = absurd (cc)
second_row false false A C is = refl

passes : (c : Bool) → (true && not c) ≡ false → c ≡ true
passes true is = refl
passes false is = absurd (true_isnt_false is)

fits_next : (limit : ℕ) (text : List ℕ) (b : ℕ) → (station_fault limit text ≡ None → Fits (last_packet text)) → station_fault limit (text ++ b ∷ []) ≡ None
    → Fits (last_packet (text ++ b ∷ []))
fits_next limit text b before fine long_enough =
    let parts = fault_of-before (station_met limit) text b fine in
    let long : length (text ++ b ∷ []) ≡ length text + 1 = length-append text (b ∷ []) in
    elim (leb_tells 6 (length text)) [
      | inr early ↦
          let none : length (last_packet (text ++ b ∷ [])) ≡ 0 = ap (λ ps. length (last_bytes ps)) (packets_short (text ++ b ∷ []) (omega (arith, long, early.1))) in
          absurd (omega (arith, none, long_enough))
      | inl late ↦
          let bytes : List ℕ = last_packet (text ++ b ∷ []) in
          let head : head_fault 3 (length text) (length bytes) (slice_index bytes 0) (length_in Two bytes) ≡ None =
          first_none _ _ (sym (met_packet limit text b late.1 (met_room limit text b parts.1)) ∙ parts.1) in
          let row : ((length bytes == 3) && not (station_length_fits (slice_index bytes 0) (length_in Two bytes))) ≡ false =
          second_row ((length bytes == 1) && not (is_kind (slice_index bytes 0))) ((length bytes == 3) && not (station_length_fits (slice_index bytes 0) (length_in Two bytes)))
          (BadKind (length text)) (BadLength (length text - 1)) head in
          elim (eqb_tells (length bytes) 3) [
            | inl three ↦ passes _ (ap (λ c. c && not (station_length_fits (slice_index bytes 0) (length_in Two bytes))) (sym three.0) ∙ row)
            | inr other ↦ elim (cases_Bool (over (packet_size w16) (last_packet text))) [
              | inl begins ↦
                  let alone : last_packet (text ++ b ∷ []) ≡ b ∷ [] =
                  last_packet-next text b late.1 ∙ ap (λ c. cond c (b ∷ []) (last_packet text ++ b ∷ [])) begins in
                  let one : length (last_packet (text ++ b ∷ [])) ≡ 1 = ap length alone in
                  absurd (omega (arith, one, long_enough))
              | inr goes ↦
                  let more : last_packet (text ++ b ∷ []) ≡ last_packet text ++ b ∷ [] =
                  last_packet-next text b late.1 ∙ ap (λ c. cond c (b ∷ []) (last_packet text ++ b ∷ [])) goes in
                  let longer : length (last_packet (text ++ b ∷ [])) ≡ length (last_packet text) + 1 = ap length more ∙ length-append (last_packet text) (b ∷ []) in
                  subst Fits (sym more) (fits_more (last_packet text) b (omega (arith, longer, long_enough, other.1)) (before parts.0)) long_enough
            ]
          ]
    ]

pub fits : (limit : ℕ) (text : List ℕ) → station_fault limit text ≡ None → Fits (last_packet text)
fits limit = by_bytes (λ text. station_fault limit text ≡ None → Fits (last_packet text))
    (λ fine long_enough. let none : length (last_packet []) ≡ 0 = ap (λ ps. length (last_bytes ps)) (packets_short [] (omega arith)) in absurd (omega (arith, none, long_enough)))
    (λ text b before. fits_next limit text b before)

four : (n : ℕ) → station_length_fits FENCE n ≡ true → n ≡ 4
four n is = elim (eqb_tells n 4) [
  | inl yes_four ↦ yes_four.1
  | inr other ↦ absurd (true_isnt_false (sym is ∙ ap (λ c. (false || (true && c)) || (false && (n == 0))) other.0))
]

-- a fence with seven bytes is whole
pub no_open_fence : (bytes : List ℕ) (place : ℕ) → Fits bytes → over (packet_size w16) bytes ≡ false → fence_in place bytes ≡ []
no_open_fence bytes place fits_there part = elim (cases_Bool ((slice_index bytes 0 == FENCE) && (length bytes == 7))) [
  | inr isnt ↦
      let fence : Fence = record { asked = from_be_bytes w32 (drop 3 bytes); place = place } in
      ap (λ c. cond c (fence ∷ []) []) isnt
  | inl is ↦
      let tests = and_parts _ _ is in
      let kind : slice_index bytes 0 ≡ FENCE = eqb-true _ _ tests.0 in
      let seven : length bytes ≡ 7 = eqb-true _ _ tests.1 in
      let is_four : length_in Two bytes ≡ 4 = four _ (ap (λ k. station_length_fits k (length_in Two bytes)) (sym kind) ∙ fits_there (omega arith)) in
      let whole : packet_size w16 bytes ≡ length bytes = omega (arith, is_four, seven) in
      absurd (true_isnt_false (sym (ap (λ c. (length bytes == 0) || c) (eq-eqb _ _ whole) ∙ or-true (length bytes == 0)) ∙ part))
]
