-- What follows of what a command's last byte brings.
use Rattle.std.proofs.Common.{◌≡◌, ℕ, ◌-◌, ◌%◌, ◌<◌, List, length, refl, sym, ◌∙◌, ap, arith, Bool, true, false, Option, Some, None, cond}
use Rattle.std.specs.Prelude.{◌==◌, ◌&&◌, nat_lt, slice_index}
use Rattle.std.specs.Option.{option_map_or}
use Rattle.std.proofs.lemmas.Bool.{eqb-true, eqb-false, eq-eqb, ltb-true, lt-ltb, and_parts, and_from, both_ways}
use Rattle.hk_base.specs.declared.plain.Form.{Form}
use Rattle.hk_spec_streams.specs.Commands.{Row, Content, Words, SoundForm, Sound, Nothing, row_of, has_id, content_of}
use Rattle.hk_operator_wire.specs.declared.item.Part.{Part}
use Rattle.hk_operator_wire.specs.declared.item.Part.TheVariants as parts
use Rattle.hk_operator_wire.specs.Items.{head_of, last_number, content_brought, row_brought, brought}

-- the number of a command's kind
abbrev pub number_in : List ℕ → ℕ
number_in bytes = slice_index bytes 0

-- a word: the last four bytes of words, of which so many are whole
pub record SaysWord (word : ℕ) (bytes : List ℕ) : Type 0 where
  pub content : content_of (number_in bytes) ≡ Words
  pub some : 9 < length bytes
  pub whole : (length bytes - 5) % 4 ≡ 0
  pub value : word ≡ last_number bytes

-- a form: the fifth and the sixth payload byte
pub record SaysForm (form : Form) (bytes : List ℕ) : Type 0 where
  pub content : content_of (number_in bytes) ≡ SoundForm
  pub eleven : length bytes ≡ 11
  pub value : form ≡ record { channels = slice_index bytes 9; factor = slice_index bytes 10 }

-- a byte of sound
pub record SaysByte (byte : ℕ) (bytes : List ℕ) : Type 0 where
  pub content : content_of (number_in bytes) ≡ Sound
  pub some : 5 < length bytes
  pub value : byte ≡ slice_index bytes (length bytes - 1)

-- no kind, no id, no word and no form end here, and this is no sound
pub record SaysNothing (bytes : List ℕ) : Type 0 where
  pub no_kind : length bytes ≡ 5 → ⊥
  pub no_id : has_id (number_in bytes) ≡ true → length bytes ≡ 9 → ⊥
  pub no_word : content_of (number_in bytes) ≡ Words → 9 < length bytes → (length bytes - 5) % 4 ≡ 0 → ⊥
  pub no_form : content_of (number_in bytes) ≡ SoundForm → length bytes ≡ 11 → ⊥
  pub no_sound : content_of (number_in bytes) ≡ Sound → 5 < length bytes → ⊥

abbrev pub Says : Part → List ℕ → Type 0
Says parts.Nothing bytes = SaysNothing bytes
Says (parts.Begin kind) bytes = (length bytes ≡ 5) × (kind ≡ number_in bytes)
Says (parts.Id id) bytes = (length bytes ≡ 9) × (has_id (number_in bytes) ≡ true) × (id ≡ last_number bytes)
Says (parts.Word word) bytes = SaysWord word bytes
Says (parts.Form form) bytes = SaysForm form bytes
Says (parts.Byte byte) bytes = SaysByte byte bytes

choose : (P : Part → Type 0) (t : Bool) (a b : Part) → (t ≡ true → P a) → (t ≡ false → P b) → P (cond t a b)
choose P true a b here there = here refl
choose P false a b here there = there refl

module _ (bytes : List ℕ) where
  abbrev P : Part → Type 0
  P part = Says part bytes

  n : ℕ
  n = length bytes

  module _ (no_five : (length bytes == 5) ≡ false) (no_id : has_id (number_in bytes) ≡ true → length bytes ≡ 9 → ⊥) where
    nothing : (c : Content) → content_of (number_in bytes) ≡ c
        → (c ≡ Words → 9 < length bytes → (length bytes - 5) % 4 ≡ 0 → ⊥) → (c ≡ SoundForm → length bytes ≡ 11 → ⊥) → (c ≡ Sound → 5 < length bytes → ⊥) → SaysNothing bytes
    nothing c is no_word no_form no_sound = record {
      no_kind = λ five. eqb-false _ _ no_five five;
      no_id = no_id;
      no_word = λ words. no_word (sym is ∙ words);
      no_form = λ form. no_form (sym is ∙ form);
      no_sound = λ sound. no_sound (sym is ∙ sound);
    }

    content_says : (c : Content) → content_of (number_in bytes) ≡ c → Says (content_brought c (head_of bytes) (last_number bytes) (slice_index bytes (length bytes - 1))) bytes
    content_says Words is = choose P (nat_lt 4 (length bytes - 5) && ((length bytes - 5) % 4 == 0)) (parts.Word (last_number bytes)) parts.Nothing
        (λ word. let both = and_parts (nat_lt 4 (length bytes - 5)) ((length bytes - 5) % 4 == 0) word in
        let some : 4 < length bytes - 5 = ltb-true _ _ both.0 in
        record { content = is; some = omega (arith, some); whole = eqb-true _ _ both.1; value = refl })
        (λ none. nothing Words is (λ words some whole. both_ways _ none (and_from _ _ (lt-ltb 4 (length bytes - 5) (omega (arith, some))) (eq-eqb _ _ whole)))
        (λ form. absurd (cc)) (λ sound. absurd (cc)))
    content_says SoundForm is = choose P (length bytes - 5 == 6) (parts.Form (record { channels = slice_index bytes 9; factor = slice_index bytes 10 })) parts.Nothing
        (λ six. let six' : length bytes - 5 ≡ 6 = eqb-true _ _ six in record { content = is; eleven = omega (arith, six'); value = refl })
        (λ none. nothing SoundForm is (λ words. absurd (cc)) (λ form eleven. eqb-false (length bytes - 5) 6 none (omega (arith, eleven))) (λ sound. absurd (cc)))
    content_says Sound is = choose P (nat_lt 0 (length bytes - 5)) (parts.Byte (slice_index bytes (length bytes - 1))) parts.Nothing
        (λ some. let some' : 0 < length bytes - 5 = ltb-true _ _ some in record { content = is; some = omega (arith, some'); value = refl })
        (λ none. nothing Sound is (λ words. absurd (cc)) (λ form. absurd (cc)) (λ sound some. both_ways _ none (lt-ltb 0 (length bytes - 5) (omega (arith, some)))))
    content_says Nothing is = nothing Nothing is (λ words. absurd (cc)) (λ form. absurd (cc)) (λ sound. absurd (cc))

  row_says : (o : Option Row) → row_of (number_in bytes) ≡ o → (length bytes == 5) ≡ false
      → Says (option_map_or (λ row. row_brought row (head_of bytes) (last_number bytes) (slice_index bytes (length bytes - 1))) o parts.Nothing) bytes
  row_says None is no_five =
      nothing no_five (λ has. absurd (both_ways false refl (ap (λ o. option_map_or (λ (row : Row). row.has_id) o false) (sym is) ∙ has))) Nothing
      (ap (λ o. option_map_or (λ row. row.content) o Nothing) is) (λ words. absurd (cc)) (λ form. absurd (cc)) (λ sound. absurd (cc))
  row_says (Some row) is no_five =
      let has : has_id (number_in bytes) ≡ row.has_id = ap (λ o. option_map_or (λ r. r.has_id) o false) is in
      let content : content_of (number_in bytes) ≡ row.content = ap (λ o. option_map_or (λ r. r.content) o Nothing) is in
      choose P (row.has_id && (length bytes == 9)) (parts.Id (last_number bytes)) (content_brought row.content (head_of bytes) (last_number bytes) (slice_index bytes (length bytes - 1)))
      (λ id. let both = and_parts row.has_id (length bytes == 9) id in (eqb-true _ _ both.1, has ∙ both.0, refl))
      (λ none. content_says no_five (λ has_it nine. both_ways _ none (and_from _ _ (sym has ∙ has_it) (eq-eqb _ _ nine))) row.content content)

  -- what is brought says so
  pub says : Says (brought bytes) bytes
  says = choose P (length bytes == 5) (parts.Begin (number_in bytes))
      (option_map_or (λ row. row_brought row (head_of bytes) (last_number bytes) (slice_index bytes (length bytes - 1))) (row_of (number_in bytes)) parts.Nothing)
      (λ five. (eqb-true _ _ five, refl)) (row_says (row_of (number_in bytes)) refl)
