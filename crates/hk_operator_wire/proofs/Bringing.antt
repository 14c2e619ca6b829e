-- What a command's last byte brings, and what follows of it.
use Rattle.std.proofs.Common.{◌≡◌, ℕ, ◌-◌, ◌%◌, ◌<◌, List, length, refl, sym, ◌∙◌, ap, arith, inl, inr, Bool, true, false, Option, Some, None, cond}
use Rattle.std.specs.Prelude.{◌==◌, ◌&&◌, nat_lt, slice_index}
use Rattle.std.specs.Option.{option_map_or}
use Rattle.std.proofs.lemmas.Bool.{cases_lt, le-ltb, ne_eqb}
use Rattle.hk_spec_streams.specs.Commands.{Row, Content, Words, SoundForm, Sound, Nothing, row_of}
use Rattle.hk_operator_wire.specs.declared.head.CommandHead.{CommandHead}
use Rattle.hk_operator_wire.specs.declared.item.Part.TheVariants as parts
use Rattle.hk_operator_wire.specs.Items.{head_of, last_number, content_brought, row_brought, brought_by, brought}

-- before the fourth payload byte the last four bytes don't matter
module _ (h : CommandHead) (n m byte : ℕ) (few : h.count < 5) where
  content_few : (content : Content) → content_brought content h n byte ≡ content_brought content h m byte
  content_few Words =
      let none : nat_lt 4 (h.count - 5) ≡ false = le-ltb 4 (h.count - 5) (omega (arith, few)) in
      ap (λ t. cond (t && ((h.count - 5) % 4 == 0)) (parts.Word n) parts.Nothing) none
      ∙ sym (ap (λ t. cond (t && ((h.count - 5) % 4 == 0)) (parts.Word m) parts.Nothing) none)
  content_few SoundForm = refl
  content_few Sound = refl
  content_few Nothing = refl

  no_id : (t : Bool) → (t && (h.count == 9)) ≡ false
  no_id true = ne_eqb h.count 9 (λ nine. omega (arith, few, nine))
  no_id false = refl

  row_few : (row : Row) → row_brought row h n byte ≡ row_brought row h m byte
  row_few row =
      ap (λ t. cond t (parts.Id n) (content_brought row.content h n byte)) (no_id row.has_id) ∙ content_few row.content
      ∙ sym (ap (λ t. cond t (parts.Id m) (content_brought row.content h m byte)) (no_id row.has_id))

  by : (o : Option Row) → option_map_or (λ row. row_brought row h n byte) o parts.Nothing ≡ option_map_or (λ row. row_brought row h m byte) o parts.Nothing
  by None = refl
  by (Some row) = row_few row

  few_bring : brought_by h n byte ≡ brought_by h m byte
  few_bring = ap (λ o. cond (h.count == 5) (parts.Begin h.kind) o) (by (row_of h.kind))

pub brought-number : (bytes : List ℕ) (n : ℕ) → (4 < length bytes → n ≡ last_number bytes)
    → brought_by (head_of bytes) n (slice_index bytes (length bytes - 1)) ≡ brought bytes
brought-number bytes n is = elim (cases_lt (length bytes) 5) [
  | inl few ↦ few_bring (head_of bytes) n (last_number bytes) (slice_index bytes (length bytes - 1)) few
  | inr many ↦ ap (λ m. brought_by (head_of bytes) m (slice_index bytes (length bytes - 1))) (is (omega (arith, many)))
]
