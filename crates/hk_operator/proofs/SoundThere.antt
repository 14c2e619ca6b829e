-- The sound that has come of a command, as its next byte comes.
use Rattle.std.proofs.Common.{◌≡◌, ℕ, ◌+◌, ◌-◌, ◌<◌, ◌≤◌, inl, inr, List, [], ◌∷◌, ◌++◌, length, drop, refl, sym, ◌∙◌, ap, subst, arith, length-append, Bool, true, false, cond}
use Rattle.std.specs.Prelude.{◌==◌, ◌||◌, ◌⊎◌, slice_index}
use Rattle.std.specs.Int.{w32}
use Rattle.std.proofs.lemmas.Bool.{cases_lt, cases_Bool, eqb-true, or_cases, both_ways}
use Rattle.std.proofs.lemmas.List.{drop_all, drop-append-le}
use Rattle.hk_spec_streams.specs.Grammar.{packet_size}
use Rattle.hk_spec_streams.specs.Commands.{Content, Words, SoundForm, Sound, Nothing, content_of}
use Rattle.hk_spec_streams.proofs.CommandRows.{sound_has_no_id}
use Rattle.hk_operator_wire.specs.declared.item.Part.{Part}
use Rattle.hk_operator_wire.specs.declared.item.Part.TheVariants as parts
use Rattle.hk_operator_wire.specs.Items.{brought, is_whole_command}
use Rattle.hk_operator_wire.proofs.Reading.{next_bytes}
use Rattle.hk_operator_wire.proofs.Saying.{Says, says}
use Rattle.hk_operator_wire.proofs.Coming.{Begins, Goes, comes}
use Rattle.hk_operator_wire.proofs.Payloads.{same_kind}
use Rattle.hk_operator.specs.Sound.{sound_in, sound_if, sound_there, sound_ahead}
use Rattle.std.proofs.lemmas.List.{get_or_at}
use Rattle.hk_operator.proofs.Drafting.{two_contents}

-- sound comes with the bytes behind the length, and nothing else brings any
no_sound : (part : Part) (bytes : List ℕ) → Says part bytes → (content_of (slice_index bytes 0) ≡ Sound → 5 < length bytes → ⊥) → sound_in part ≡ []
no_sound parts.Nothing bytes s none = refl
no_sound (parts.Begin k) bytes s none = refl
no_sound (parts.Id id) bytes s none = refl
no_sound (parts.Word w) bytes s none = refl
no_sound (parts.Form f) bytes s none = refl
no_sound (parts.Byte x) bytes s none = absurd (none s.content s.some)

some_sound : (part : Part) (bytes : List ℕ) → Says part bytes → content_of (slice_index bytes 0) ≡ Sound → 5 < length bytes
    → sound_in part ≡ slice_index bytes (length bytes - 1) ∷ []
some_sound parts.Nothing bytes s content some = absurd (s.no_sound content some)
some_sound (parts.Begin k) bytes s content some = absurd (omega (arith, some, s.0))
some_sound (parts.Id id) bytes s content some = absurd (both_ways false refl (sym (sound_has_no_id (slice_index bytes 0) content) ∙ s.1))
some_sound (parts.Word w) bytes s content some = absurd (two_contents s.content content (λ same. cc))
some_sound (parts.Form f) bytes s content some = absurd (two_contents s.content content (λ same. cc))
some_sound (parts.Byte x) bytes s content some = ap (λ y. y ∷ []) s.value

-- whether a command brings sound
sounds : (bytes : List ℕ) → (content_of (slice_index bytes 0) ≡ Sound) ⊎ ((payload : List ℕ) → sound_if (content_of (slice_index bytes 0)) payload ≡ [])
sounds bytes = by (content_of (slice_index bytes 0))
  where
    by : (c : Content) → (c ≡ Sound) ⊎ ((payload : List ℕ) → sound_if c payload ≡ [])
    by Sound = inl refl
    by Words = inr (λ payload. refl)
    by SoundForm = inr (λ payload. refl)
    by Nothing = inr (λ payload. refl)

is_sound : (bytes : List ℕ) → content_of (slice_index bytes 0) ≡ Sound → sound_there bytes ≡ drop 5 bytes
is_sound bytes content = ap (λ c. sound_if c (drop 5 bytes)) content

no_head_sound : (bytes : List ℕ) → length bytes ≤ 5 → sound_there bytes ≡ []
no_head_sound bytes few = elim (sounds bytes) [ inl content ↦ is_sound bytes content ∙ drop_all 5 bytes few | inr other ↦ other (drop 5 bytes) ]

last_of_more : (bytes : List ℕ) (b : ℕ) → slice_index (bytes ++ b ∷ []) (length (bytes ++ b ∷ []) - 1) ≡ b
last_of_more bytes b =
    let place : length (bytes ++ b ∷ []) - 1 ≡ length bytes = omega (arith, length-append bytes (b ∷ [])) in
    ap (slice_index (bytes ++ b ∷ [])) place ∙ get_or_at bytes b [] 0 (length bytes) refl

sound-more : (bytes : List ℕ) (b : ℕ) → 0 < length bytes → sound_there (bytes ++ b ∷ []) ≡ sound_there bytes ++ sound_in (brought (bytes ++ b ∷ []))
sound-more bytes b some =
    let longer : List ℕ = bytes ++ b ∷ [] in
    let more : length (bytes ++ b ∷ []) ≡ length bytes + 1 = length-append bytes (b ∷ []) in
    elim (cases_lt (length bytes) 5) [
      | inl few ↦
          no_head_sound longer (omega (arith, more, few))
          ∙ sym (ap (λ xs. xs ++ sound_in (brought longer)) (no_head_sound bytes (omega (arith, few))) ∙ no_sound (brought longer) longer (says longer) (λ kind far. omega (arith, more, few, far)))
      | inr many ↦
          let same : content_of (slice_index longer 0) ≡ content_of (slice_index bytes 0) = ap content_of (same_kind bytes b some) in
          elim (sounds longer) [
            | inl content ↦
                is_sound longer content ∙ drop-append-le 5 bytes (b ∷ []) many
                ∙ sym (ap (λ xs. xs ++ sound_in (brought longer)) (is_sound bytes (sym same ∙ content))
                ∙ ap (λ xs. drop 5 bytes ++ xs) (some_sound (brought longer) longer (says longer) content (omega (arith, more, many)) ∙ ap (λ x. x ∷ []) (last_of_more bytes b)))
            | inr other ↦
                other (drop 5 longer)
                ∙ sym (ap (λ xs. xs ++ sound_in (brought longer)) (ap (λ c. sound_if c (drop 5 bytes)) (sym same) ∙ other (drop 5 bytes))
                ∙ no_sound (brought longer) longer (says longer) (λ content far. some_none b (sym (ap (λ c. sound_if c (b ∷ [])) content) ∙ other (b ∷ []))))
          ]
    ]
  where
    some_none : (x : ℕ) → x ∷ [] ≡ [] → ⊥
    some_none x is = cc

-- the sound ahead of the next byte, and what the byte brings
pub next_sound : (bytes : List ℕ) (b : ℕ) → sound_there (next_bytes bytes b) ≡ sound_ahead bytes ++ sound_in (brought (next_bytes bytes b))
next_sound bytes b = elim (comes bytes b) [
  | Begins begins same ↦ subst (λ xs. sound_there xs ≡ sound_ahead bytes ++ sound_in (brought xs)) (sym same)
      (no_head_sound (b ∷ []) (omega arith) ∙ sym (ap (λ xs. xs ++ sound_in (brought (b ∷ []))) (none_ahead begins) ∙ no_sound (brought (b ∷ [])) (b ∷ []) (says (b ∷ [])) (λ kind far. omega (arith, far))))
  | Goes same some part ↦ subst (λ xs. sound_there xs ≡ sound_ahead bytes ++ sound_in (brought xs)) (sym same)
      (sound-more bytes b some ∙ ap (λ xs. xs ++ sound_in (brought (bytes ++ b ∷ []))) (sym (ap (λ t. cond t [] (sound_there bytes)) (not_whole part))))
]
  where
    none_ahead : ((length bytes == 0) || (packet_size w32 bytes == length bytes)) ≡ true → sound_ahead bytes ≡ []
    none_ahead begins = elim (or_cases (length bytes == 0) (packet_size w32 bytes == length bytes) begins) [
      | inl empty ↦ by (is_whole_command bytes) (no_head_sound bytes (let none : length bytes ≡ 0 = eqb-true _ _ empty in omega (arith, none)))
      | inr whole ↦ ap (λ t. cond t [] (sound_there bytes)) whole
    ]
      where
        by : (t : Bool) → sound_there bytes ≡ [] → cond t [] (sound_there bytes) ≡ []
        by true none = refl
        by false none = none

    not_whole : (packet_size w32 bytes ≡ length bytes → ⊥) → is_whole_command bytes ≡ false
    not_whole part = elim (cases_Bool (is_whole_command bytes)) [ inl whole ↦ absurd (part (eqb-true _ _ whole)) | inr other ↦ other ]
