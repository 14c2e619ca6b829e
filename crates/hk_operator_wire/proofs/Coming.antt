-- A command's bytes as the next byte comes.
use Rattle.std.proofs.Common.{◌≡◌, ℕ, ◌+◌, ◌-◌, ◌<◌, ◌≤◌, inl, inr, List, [], ◌∷◌, ◌++◌, length, take, drop, refl, sym, ◌∙◌, ap, subst, arith, length-append, Bool, true, false, None, cond}
use Rattle.std.specs.Prelude.{◌==◌, ◌&&◌, not, slice_index, is_some}
use Rattle.std.specs.Int.{w32, from_be_bytes}
use Rattle.std.proofs.lemmas.Bool.{cases_lt, cases_Bool, eq-eqb, or_parts, both_ways}
use Rattle.std.proofs.lemmas.List.{get_or_append_left}
use Rattle.hk_base.specs.declared.plain.WireFault.{WireFault}
use Rattle.hk_base.specs.declared.plain.WireFault.TheVariants.{BadKind, BadLength, BadFormat}
use Rattle.hk_spec_streams.specs.Pieces.{first_that_holds, is_one_of}
use Rattle.hk_spec_streams.specs.Grammar.{packet_size}
use Rattle.hk_spec_sound.specs.Limits.{CHANNELS, FACTORS}
use Rattle.hk_spec_streams.specs.Commands.{SoundForm, row_of, command_length_fits, content_of, is_form}
use Rattle.hk_spec_streams.proofs.GrowingPackets.{over}
use Rattle.hk_spec_streams.proofs.PacketSize.{packet_size_32}
use Rattle.hk_operator_wire.specs.Items.{head_of}
use Rattle.hk_operator_wire.specs.Heads.{head_fault, has_bad_byte}
use Rattle.hk_operator_wire.proofs.Reading.{next_bytes}
use Rattle.hk_operator_wire.proofs.Payloads.{same_kind, same_length}
use Rattle.hk_operator_wire.specs.Taken.{IsGoodSoFar}

-- the byte begins a command, or goes to the open one
pub data Comes (bytes : List ℕ) (b : ℕ) (next : List ℕ) : Type 0 where
  Begins : over (packet_size w32) bytes ≡ true → next ≡ b ∷ [] → Comes bytes b next
  Goes : next ≡ bytes ++ b ∷ [] → 0 < length bytes → (packet_size w32 bytes ≡ length bytes → ⊥) → Comes bytes b next

pub comes : (bytes : List ℕ) (b : ℕ) → Comes bytes b (next_bytes bytes b)
comes bytes b = elim (cases_Bool (over (packet_size w32) bytes)) [
  | inl begins ↦ Begins begins (ap (λ t. cond t (b ∷ []) (bytes ++ b ∷ [])) begins)
  | inr goes ↦
      let parts = or_parts (length bytes == 0) (packet_size w32 bytes == length bytes) goes in
      Goes (ap (λ t. cond t (b ∷ []) (bytes ++ b ∷ [])) goes)
      (elim (cases_lt 0 (length bytes)) [ inl some ↦ some | inr none ↦ absurd (both_ways _ parts.0 (eq-eqb (length bytes) 0 (omega (arith, none)))) ])
      (λ same. both_ways _ parts.1 (eq-eqb _ _ same))
]

no_row : (a b c : Bool) (x y z : WireFault) → first_that_holds ((a, x) ∷ (b, y) ∷ (c, z) ∷ []) ≡ None → (a ≡ false) × (b ≡ false) × (c ≡ false)
no_row true b c x y z is = absurd (cc)
no_row false true c x y z is = absurd (cc)
no_row false false true x y z is = absurd (cc)
no_row false false false x y z is = (refl, refl, refl)

holds : (t f : Bool) → (t && not f) ≡ false → t ≡ true → f ≡ true
holds true true none is = refl
holds true false none is = absurd (both_ways true none refl)
holds false f none is = absurd (both_ways false refl is)

and_none : (t f : Bool) → (t && f) ≡ false → t ≡ true → f ≡ false
and_none true f none is = none
and_none false f none is = absurd (both_ways false refl is)

-- what the tests of a command's last byte say, where none of them holds
module _ (p : ℕ) (bytes : List ℕ) (none : head_fault p (head_of bytes) ≡ None) where
  rows : (((length bytes == 1) && not (is_some (row_of (slice_index bytes 0)))) ≡ false)
      × (((length bytes == 5) && not (command_length_fits (slice_index bytes 0) (from_be_bytes w32 (take 4 (drop 1 bytes))))) ≡ false)
      × ((is_form (content_of (slice_index bytes 0)) && has_bad_byte (head_of bytes)) ≡ false)
  rows = no_row ((length bytes == 1) && not (is_some (row_of (slice_index bytes 0))))
      ((length bytes == 5) && not (command_length_fits (slice_index bytes 0) (from_be_bytes w32 (take 4 (drop 1 bytes)))))
      (is_form (content_of (slice_index bytes 0)) && has_bad_byte (head_of bytes)) (BadKind p) (BadLength (p - 3)) (BadFormat p) none

  kind_now : length bytes ≡ 1 → is_some (row_of (slice_index bytes 0)) ≡ true
  kind_now one = holds (length bytes == 1) (is_some (row_of (slice_index bytes 0))) rows.0 (eq-eqb _ _ one)

  fits_now : length bytes ≡ 5 → command_length_fits (slice_index bytes 0) (from_be_bytes w32 (take 4 (drop 1 bytes))) ≡ true
  fits_now five = holds (length bytes == 5) (command_length_fits (slice_index bytes 0) (from_be_bytes w32 (take 4 (drop 1 bytes)))) rows.1 (eq-eqb _ _ five)

  form_rows : content_of (slice_index bytes 0) ≡ SoundForm → (((length bytes == 10) && not (is_one_of CHANNELS (slice_index bytes 9))) ≡ false)
      × (((length bytes == 11) && not (is_one_of FACTORS (slice_index bytes 10))) ≡ false)
  form_rows kind = or_parts ((length bytes == 10) && not (is_one_of CHANNELS (slice_index bytes 9)))
      ((length bytes == 11) && not (is_one_of FACTORS (slice_index bytes 10)))
      (and_none (is_form (content_of (slice_index bytes 0))) (has_bad_byte (head_of bytes)) rows.2 (ap is_form kind))

  channels_now : content_of (slice_index bytes 0) ≡ SoundForm → length bytes ≡ 10 → is_one_of CHANNELS (slice_index bytes 9) ≡ true
  channels_now kind ten = holds (length bytes == 10) (is_one_of CHANNELS (slice_index bytes 9)) (form_rows kind).0 (eq-eqb _ _ ten)

  factor_now : content_of (slice_index bytes 0) ≡ SoundForm → length bytes ≡ 11 → is_one_of FACTORS (slice_index bytes 10) ≡ true
  factor_now kind eleven = holds (length bytes == 11) (is_one_of FACTORS (slice_index bytes 10)) (form_rows kind).1 (eq-eqb _ _ eleven)

-- no byte of a command yet
pub nothing_in_order : IsGoodSoFar []
nothing_in_order = record {
  kind = λ some. absurd (omega (arith, some));
  fits = λ five. absurd (omega (arith, five));
  channels = λ kind ten. absurd (omega (arith, ten));
  factor = λ kind eleven. absurd (omega (arith, eleven));
  within = omega arith;
}

first_in_order : (p b : ℕ) → head_fault p (head_of (b ∷ [])) ≡ None → IsGoodSoFar (b ∷ [])
first_in_order p b none = record {
  kind = λ some. kind_now p (b ∷ []) none refl;
  fits = λ five. absurd (omega (arith, five));
  channels = λ kind ten. absurd (omega (arith, ten));
  factor = λ kind eleven. absurd (omega (arith, eleven));
  within = omega arith;
}

module _ (p : ℕ) (bytes : List ℕ) (b : ℕ) (is : IsGoodSoFar bytes) (some : 0 < length bytes) (part : packet_size w32 bytes ≡ length bytes → ⊥)
    (none : head_fault p (head_of (bytes ++ b ∷ [])) ≡ None) where
  longer : length (bytes ++ b ∷ []) ≡ length bytes + 1
  longer = length-append bytes (b ∷ [])

  kind_before : content_of (slice_index (bytes ++ b ∷ []) 0) ≡ SoundForm → content_of (slice_index bytes 0) ≡ SoundForm
  kind_before kind = sym (ap content_of (same_kind bytes b some)) ∙ kind

  more_in_order : IsGoodSoFar (bytes ++ b ∷ [])
  more_in_order =
      let within : length bytes ≤ packet_size w32 bytes = is.within in
      let below : length bytes < packet_size w32 (bytes ++ b ∷ []) = packet_size_32.taking bytes b (omega (arith, within, part)) in
      record {
        kind = λ s. ap (λ n. is_some (row_of n)) (same_kind bytes b some) ∙ is.kind some;
        fits = λ five. elim (cases_lt (length bytes) 5) [
          | inl few ↦ fits_now p (bytes ++ b ∷ []) none (omega (arith, longer, few, five))
          | inr many ↦
              ap (λ k. command_length_fits k (from_be_bytes w32 (take 4 (drop 1 (bytes ++ b ∷ []))))) (same_kind bytes b some)
              ∙ ap (λ xs. command_length_fits (slice_index bytes 0) (from_be_bytes w32 xs)) (same_length bytes b many) ∙ is.fits many
        ];
        channels = λ kind ten. elim (cases_lt (length bytes) 10) [
          | inl few ↦ channels_now p (bytes ++ b ∷ []) none kind (omega (arith, longer, few, ten))
          | inr many ↦ ap (is_one_of CHANNELS) (get_or_append_left bytes (b ∷ []) 0 9 (omega (arith, many))) ∙ is.channels (kind_before kind) many
        ];
        factor = λ kind eleven. elim (cases_lt (length bytes) 11) [
          | inl few ↦ factor_now p (bytes ++ b ∷ []) none kind (omega (arith, longer, few, eleven))
          | inr many ↦ ap (is_one_of FACTORS) (get_or_append_left bytes (b ∷ []) 0 10 (omega (arith, many))) ∙ is.factor (kind_before kind) many
        ];
        within = omega (arith, longer, below);
      }

pub next_in_order : (p : ℕ) (bytes : List ℕ) (b : ℕ) → IsGoodSoFar bytes → head_fault p (head_of (next_bytes bytes b)) ≡ None → IsGoodSoFar (next_bytes bytes b)
next_in_order p bytes b is none = elim (comes bytes b) [
  | Begins begins same ↦ subst IsGoodSoFar (sym same) (first_in_order p b (subst (λ xs. head_fault p (head_of xs) ≡ None) same none))
  | Goes same some part ↦ subst IsGoodSoFar (sym same) (more_in_order p bytes b is some part (subst (λ xs. head_fault p (head_of xs) ≡ None) same none))
]
