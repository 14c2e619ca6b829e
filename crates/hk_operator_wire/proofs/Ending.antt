-- What ends a command: something, and a form ends its command. And what an item says of its byte.
use Rattle.std.proofs.Common.{◌≡◌, ℕ, ◌+◌, ◌-◌, ◌%◌, ◌<◌, ◌≤◌, List, length, take, drop, refl, sym, ◌∙◌, ap, arith, inl, inr, Bool, true, false, Some, None}
use Rattle.std.specs.Prelude.{◌==◌, nat_le, slice_index, is_some}
use Rattle.std.specs.Int.{w32, from_be_bytes}
use Rattle.std.specs.Option.{option_map_or}
use Rattle.std.proofs.lemmas.Bool.{cases_lt, eqb-true, eq-eqb, leb-true, and_parts, both_ways}
use Rattle.hk_base.specs.declared.plain.Form.{Form}
use Rattle.hk_base.specs.declared.plain.WireFault.{WireFault}
use Rattle.hk_spec_streams.specs.Grammar.{packet_size}
use Rattle.hk_spec_streams.specs.Commands.{Row, SoundForm, Nothing, ADD_WORDS, OPEN_SONG, AUDIO, CLOSE, WITHDRAW, PUBLISH, length_fits, row_of, has_id, content_of}
use Rattle.hk_spec_streams.proofs.CommandRows.{by_row}
use Rattle.hk_operator_wire.specs.declared.item.OpItem.TheVariants as items
use Rattle.hk_operator_wire.specs.declared.item.Part.{Part}
use Rattle.hk_operator_wire.specs.declared.item.Part.TheVariants as parts
use Rattle.hk_operator_wire.specs.Items.{brought, joined, part_of, ends, IsPossible, is_whole_command, item_of}
use Rattle.hk_operator_wire.specs.Taken.{IsGoodSoFar}
use Rattle.hk_operator_wire.proofs.Saying.{Says, SaysNothing, SaysForm, says}

-- the parts of an item
pub part-joined : (part : Part) (whole : Bool) → part_of (joined part whole) ≡ part
part-joined parts.Nothing true = refl
part-joined (parts.Begin kind) true = refl
part-joined (parts.Id id) true = refl
part-joined (parts.Word word) true = refl
part-joined (parts.Form form) true = refl
part-joined (parts.Byte byte) true = refl
part-joined parts.Nothing false = refl
part-joined (parts.Begin kind) false = refl
part-joined (parts.Id id) false = refl
part-joined (parts.Word word) false = refl
part-joined (parts.Form form) false = refl
part-joined (parts.Byte byte) false = refl

pub ends-joined : (part : Part) (whole : Bool) → ends (joined part whole) ≡ whole
ends-joined parts.Nothing true = refl
ends-joined (parts.Begin kind) true = refl
ends-joined (parts.Id id) true = refl
ends-joined (parts.Word word) true = refl
ends-joined (parts.Form form) true = refl
ends-joined (parts.Byte byte) true = refl
ends-joined parts.Nothing false = refl
ends-joined (parts.Begin kind) false = refl
ends-joined (parts.Id id) false = refl
ends-joined (parts.Word word) false = refl
ends-joined (parts.Form form) false = refl
ends-joined (parts.Byte byte) false = refl

-- what bytes bring is no fault
pub joined-no_fault : (part : Part) (whole : Bool) (fault : WireFault) → joined part whole ≡ items.Fault fault → ⊥
joined-no_fault parts.Nothing true fault is = cc
joined-no_fault (parts.Begin kind) true fault is = cc
joined-no_fault (parts.Id id) true fault is = cc
joined-no_fault (parts.Word word) true fault is = cc
joined-no_fault (parts.Form form) true fault is = cc
joined-no_fault (parts.Byte byte) true fault is = cc
joined-no_fault parts.Nothing false fault is = cc
joined-no_fault (parts.Begin kind) false fault is = cc
joined-no_fault (parts.Id id) false fault is = cc
joined-no_fault (parts.Word word) false fault is = cc
joined-no_fault (parts.Form form) false fault is = cc
joined-no_fault (parts.Byte byte) false fault is = cc

module _ (bytes : List ℕ) (order : IsGoodSoFar bytes) where
  abbrev kind : ℕ
  kind = slice_index bytes 0

  abbrev payload : ℕ
  payload = from_be_bytes w32 (take 4 (drop 1 bytes))

  module _ (row : Row) (is : row_of kind ≡ Some row) where
    pub content_is : content_of kind ≡ row.content
    content_is = ap (λ o. option_map_or (λ (r : Row). r.content) o Nothing) is

    pub has_id_is : has_id kind ≡ row.has_id
    has_id_is = ap (λ o. option_map_or (λ (r : Row). r.has_id) o false) is

    pub fits_is : 5 ≤ length bytes → length_fits row.lengths payload ≡ true
    fits_is long = sym (ap (λ o. option_map_or (λ (r : Row). length_fits r.lengths payload) o false) is) ∙ order.fits long

  pub no_row : 0 < length bytes → row_of kind ≡ None → ⊥
  no_row some none = both_ways false refl (sym (ap is_some none) ∙ order.kind some)

  module _ (whole : packet_size w32 bytes ≡ length bytes) where
    long : length bytes ≡ 5 + payload
    long = omega (arith, whole)

    -- something is brought
    ends_with_something : SaysNothing bytes → ⊥
    ends_with_something none =
        let many : 5 ≤ length bytes = omega (arith, long) in
        let no_kind : length bytes ≡ 5 → ⊥ = none.no_kind in
        by_row (λ o. row_of kind ≡ o → ⊥) kind (no_row (omega (arith, many)))
        (λ is. let fits = and_parts (nat_le 4 payload) (payload % 4 == 0) (fits_is ADD_WORDS is many) in
        let least : 4 ≤ payload = leb-true 4 payload fits.0 in
        let rest : length bytes - 5 ≡ payload = omega (arith, long) in
        elim (cases_lt 4 payload) [
          | inl more ↦ none.no_word (content_is ADD_WORDS is) (omega (arith, long, more)) (ap (λ n. n % 4) rest ∙ eqb-true _ _ fits.1)
          | inr only ↦ none.no_id (has_id_is ADD_WORDS is) (omega (arith, long, least, only))
        ])
        (λ is. let six : payload ≡ 6 = eqb-true payload 6 (fits_is OPEN_SONG is many) in none.no_form (content_is OPEN_SONG is) (omega (arith, long, six)))
        (λ is. elim (cases_lt 0 payload) [
          | inl some ↦ none.no_sound (content_is AUDIO is) (omega (arith, long, some))
          | inr empty ↦ no_kind (omega (arith, long, empty))
        ])
        (λ is. let zero : payload ≡ 0 = eqb-true payload 0 (fits_is CLOSE is many) in no_kind (omega (arith, long, zero)))
        (λ is. let four : payload ≡ 4 = eqb-true payload 4 (fits_is WITHDRAW is many) in none.no_id (has_id_is WITHDRAW is) (omega (arith, long, four)))
        (λ is. let zero : payload ≡ 0 = eqb-true payload 0 (fits_is PUBLISH is many) in no_kind (omega (arith, long, zero)))
        refl

  -- a form's last byte is its command's
  form_ends : (form : Form) → SaysForm form bytes → packet_size w32 bytes ≡ length bytes
  form_ends form is_form =
      let eleven : length bytes ≡ 11 = is_form.eleven in
      let other : (row : Row) → row_of kind ≡ Some row → (row.content ≡ SoundForm → ⊥) → packet_size w32 bytes ≡ length bytes = λ row is no.
      absurd (no (sym (content_is row is) ∙ is_form.content)) in
      by_row (λ o. row_of kind ≡ o → packet_size w32 bytes ≡ length bytes) kind (λ none. absurd (no_row (omega (arith, eleven)) none))
      (λ is. other ADD_WORDS is (λ same. cc))
      (λ is. let six : payload ≡ 6 = eqb-true payload 6 (fits_is OPEN_SONG is (omega (arith, eleven))) in omega (arith, eleven, six))
      (λ is. other AUDIO is (λ same. cc))
      (λ is. other CLOSE is (λ same. cc))
      (λ is. other WITHDRAW is (λ same. cc))
      (λ is. other PUBLISH is (λ same. cc))
      refl

  possible_by : (part : Part) (whole : Bool) → is_whole_command bytes ≡ whole → Says part bytes → IsPossible (joined part whole)
  possible_by parts.Nothing true is s = ends_with_something (eqb-true _ _ is) s
  possible_by (parts.Begin number) true is s = tt
  possible_by (parts.Id id) true is s = tt
  possible_by (parts.Word word) true is s = tt
  possible_by (parts.Form form) true is s = tt
  possible_by (parts.Byte byte) true is s = tt
  possible_by parts.Nothing false is s = tt
  possible_by (parts.Begin number) false is s = tt
  possible_by (parts.Id id) false is s = tt
  possible_by (parts.Word word) false is s = tt
  possible_by (parts.Form form) false is s = both_ways (is_whole_command bytes) is (eq-eqb _ _ (form_ends form s))
  possible_by (parts.Byte byte) false is s = tt

  pub possible : IsPossible (item_of bytes)
  possible = possible_by (brought bytes) (is_whole_command bytes) refl (says bytes)
