-- What is kept of a command, as its next byte comes.
use Rattle.std.proofs.Common.{◌≡◌, ℕ, zero, suc, ◌+◌, ◌-◌, ◌%◌, ◌^◌, ◌<◌, ◌≤◌, inl, inr, List, [], ◌∷◌, ◌++◌, length, take, drop, refl, sym, ◌∙◌, ap, subst, arith, length-append, true, false}
use Rattle.std.specs.Prelude.{min, slice_index}
use Rattle.std.specs.Int.{w32, from_be_bytes}
use Rattle.std.proofs.lemmas.Bool.{cases_lt, both_ways}
use Rattle.hk_base.specs.declared.plain.Form.{Form}
use Rattle.hk_spec_streams.specs.Commands.{Content, Words, SoundForm, has_id, content_of}
use Rattle.hk_spec_streams.specs.Operator.{words_of}
use Rattle.hk_spec_streams.proofs.CommandRows.{sound_has_no_id}
use Rattle.hk_operator_wire.specs.declared.item.Part.{Part}
use Rattle.hk_operator_wire.specs.declared.item.Part.TheVariants as parts
use Rattle.hk_operator_wire.specs.Items.{brought, last_number}
use Rattle.hk_operator_wire.proofs.Reading.{next_bytes}
use Rattle.hk_operator_wire.proofs.Saying.{Says, SaysNothing, SaysWord, SaysForm, SaysByte, says}
use Rattle.hk_operator_wire.proofs.Coming.{Begins, Goes, comes}
use Rattle.hk_operator_wire.proofs.Payloads.{no_words, one_word, same_words, same_id, same_kind, id_is}
use Rattle.hk_operator.specs.WordBuffer as keeping
use Rattle.hk_operator.specs.WordBuffer.{KeepsWords, with_word}
use Rattle.hk_operator.specs.Draft.{IsDraft, draft_after}
use Rattle.hk_operator.specs.declared.draft.Draft.{Draft}
use Rattle.std.proofs.lemmas.List.{get_or_append_left}

nothing_taken : (room : ℕ) → ◌≡◌ {A = List ℕ} (take room []) []
nothing_taken zero = refl
nothing_taken (suc n) = refl

take_more_kept : (room : ℕ) (xs : List ℕ) (x : ℕ) → take room (take room xs ++ x ∷ []) ≡ take room (xs ++ x ∷ [])
take_more_kept zero xs x = refl
take_more_kept (suc n) [] x = refl
take_more_kept (suc n) (y ∷ ys) x = ap (λ zs. y ∷ zs) (take_more_kept n ys x)

pub keeps_nothing : (room : ℕ) → KeepsWords (record { words = []; count = 0; room = room }) []
keeps_nothing room = record { words = sym (nothing_taken room); count = refl }

pub keeps_more : (kept : keeping.Buffered) (all : List ℕ) (word : ℕ) → KeepsWords kept all → KeepsWords (with_word kept word) (all ++ word ∷ [])
keeps_more kept all word is = record {
  words = ap (λ xs. take kept.room (xs ++ word ∷ [])) is.words ∙ take_more_kept kept.room all word;
  count = let c : kept.count ≡ min (length all) (2 ^ 64 - 1) = is.count in omega (arith, c, length-append all (word ∷ []));
}

pub no_draft : (draft : Draft) → IsDraft draft []
no_draft draft = record {
  kind = λ five. absurd (omega (arith, five));
  id = λ has nine. absurd (omega (arith, nine));
  form = λ kind eleven. absurd (omega (arith, eleven));
  words = λ kind five. absurd (omega (arith, five));
}

one_byte : (draft : Draft) (b : ℕ) → IsDraft draft (b ∷ [])
one_byte draft b = record {
  kind = λ five. absurd (omega (arith, five));
  id = λ has nine. absurd (omega (arith, nine));
  form = λ kind eleven. absurd (omega (arith, eleven));
  words = λ kind five. absurd (omega (arith, five));
}

pub two_contents : {a b c : Content} → c ≡ a → c ≡ b → (a ≡ b → ⊥) → ⊥
two_contents is other differ = differ (sym is ∙ other)

-- the draft of the bytes with one more
module _ (d : Draft) (bytes : List ℕ) (b : ℕ) (some : 0 < length bytes) (is : IsDraft d bytes) where
  more : length (bytes ++ b ∷ []) ≡ length bytes + 1
  more = length-append bytes (b ∷ [])

  before : {C : Content} → content_of (slice_index (bytes ++ b ∷ []) 0) ≡ C → content_of (slice_index bytes 0) ≡ C
  before content = sym (ap content_of (same_kind bytes b some)) ∙ content

  same_form : 11 ≤ length bytes → content_of (slice_index bytes 0) ≡ SoundForm → d.form ≡ record { channels = slice_index (bytes ++ b ∷ []) 9; factor = slice_index (bytes ++ b ∷ []) 10 }
  same_form there kind = is.form kind there
      ∙ ap (λ n. record { channels = n; factor = slice_index bytes 10 }) (sym (get_or_append_left bytes (b ∷ []) 0 9 (omega (arith, there))))
      ∙ ap (λ n. record { channels = slice_index (bytes ++ b ∷ []) 9; factor = n }) (sym (get_or_append_left bytes (b ∷ []) 0 10 (omega (arith, there))))

  kind_after : 5 ≤ length bytes → d.kind ≡ slice_index (bytes ++ b ∷ []) 0
  kind_after there = is.kind there ∙ sym (same_kind bytes b some)

  id_after : 9 ≤ length bytes → has_id (slice_index (bytes ++ b ∷ []) 0) ≡ true → d.id ≡ from_be_bytes w32 (take 4 (drop 5 (bytes ++ b ∷ [])))
  id_after there has = is.id (sym (ap has_id (same_kind bytes b some)) ∙ has) there ∙ sym (ap (from_be_bytes w32) (same_id bytes b there))

  -- where no word ends, the words stay
  words_stay : (content_of (slice_index bytes 0) ≡ Words → 9 ≤ length bytes → ((length (bytes ++ b ∷ []) - 5) % 4 ≡ 0 → ⊥)) → content_of (slice_index (bytes ++ b ∷ []) 0) ≡ Words
      → words_of (drop 9 (bytes ++ b ∷ [])) ≡ words_of (drop 9 bytes)
  words_stay none kind = elim (cases_lt (length bytes) 9) [
    | inl few ↦ no_words (bytes ++ b ∷ []) (omega (arith, more, few)) ∙ sym (no_words bytes (omega (arith, few)))
    | inr many ↦ same_words bytes b many (none (before kind) many)
  ]

  keeps_same : (content_of (slice_index bytes 0) ≡ Words → 9 ≤ length bytes → ((length (bytes ++ b ∷ []) - 5) % 4 ≡ 0 → ⊥)) → content_of (slice_index (bytes ++ b ∷ []) 0) ≡ Words → 5 ≤ length bytes
      → KeepsWords d.words (words_of (drop 9 (bytes ++ b ∷ [])))
  keeps_same none kind there = subst (KeepsWords d.words) (sym (words_stay none kind)) (is.words (before kind) there)

  nothing_drafted : SaysNothing (bytes ++ b ∷ []) → IsDraft d (bytes ++ b ∷ [])
  nothing_drafted none =
      let there : 5 ≤ length (bytes ++ b ∷ []) → 5 ≤ length bytes = λ five. let no_kind = none.no_kind in
      elim (cases_lt (length bytes) 5) [ inl few ↦ absurd (no_kind (omega (arith, more, few, five))) | inr many ↦ many ] in
      let no_word : content_of (slice_index bytes 0) ≡ Words → 9 ≤ length bytes → ((length (bytes ++ b ∷ []) - 5) % 4 ≡ 0 → ⊥) =
      λ kind nine whole. none.no_word (ap content_of (same_kind bytes b some) ∙ kind) (omega (arith, more, nine)) whole in
      record {
        kind = λ five. kind_after (there five);
        id = λ has nine. elim (cases_lt (length bytes) 9) [
          | inl few ↦ absurd (none.no_id has (omega (arith, more, few, nine)))
          | inr many ↦ id_after many has
        ];
        form = λ kind eleven. elim (cases_lt (length bytes) 11) [
          | inl few ↦ absurd (none.no_form kind (omega (arith, more, few, eleven)))
          | inr many ↦ same_form many (before kind)
        ];
        words = λ kind five. keeps_same no_word kind (there five);
      }

  kind_drafted : (k : ℕ) → length (bytes ++ b ∷ []) ≡ 5 → k ≡ slice_index (bytes ++ b ∷ []) 0 → IsDraft (draft_after d (parts.Begin k)) (bytes ++ b ∷ [])
  kind_drafted k five value = record {
    kind = λ there. value;
    id = λ has nine. absurd (omega (arith, nine, five));
    form = λ kind eleven. absurd (omega (arith, eleven, five));
    words = λ kind there. subst (KeepsWords (draft_after d (parts.Begin k)).words) (sym (no_words (bytes ++ b ∷ []) (omega (arith, five)))) (keeps_nothing d.words.room);
  }

  id_drafted : (id : ℕ) → length (bytes ++ b ∷ []) ≡ 9 → id ≡ last_number (bytes ++ b ∷ []) → IsDraft (draft_after d (parts.Id id)) (bytes ++ b ∷ [])
  id_drafted id nine value =
      let eight : 5 ≤ length bytes = omega (arith, more, nine) in
      let no_word : content_of (slice_index bytes 0) ≡ Words → 9 ≤ length bytes → ((length (bytes ++ b ∷ []) - 5) % 4 ≡ 0 → ⊥) = λ kind many whole. omega (arith, more, nine, many) in
      record {
        kind = λ five. kind_after eight;
        id = λ has there. value ∙ id_is (bytes ++ b ∷ []) nine;
        form = λ kind eleven. absurd (omega (arith, eleven, nine));
        words = λ kind five. keeps_same no_word kind eight;
      }

  word_drafted : (w : ℕ) → SaysWord w (bytes ++ b ∷ []) → IsDraft (draft_after d (parts.Word w)) (bytes ++ b ∷ [])
  word_drafted w word =
      let far : 9 < length (bytes ++ b ∷ []) = word.some in
      let many : 9 ≤ length bytes = omega (arith, more, far) in
      let kind = before word.content in
      let kept : KeepsWords d.words (words_of (drop 9 bytes)) = is.words kind (omega (arith, many)) in
      let grown : words_of (drop 9 (bytes ++ b ∷ [])) ≡ words_of (drop 9 bytes) ++ w ∷ [] =
      one_word bytes b many word.whole ∙ ap (λ x. words_of (drop 9 bytes) ++ x ∷ []) (sym word.value) in
      record {
        kind = λ five. kind_after (omega (arith, many));
        id = λ has nine. id_after many has;
        form = λ k eleven. absurd (two_contents word.content k (λ same. cc));
        words = λ k five. subst (KeepsWords (with_word d.words w)) (sym grown) (keeps_more d.words (words_of (drop 9 bytes)) w kept);
      }

  form_drafted : (f : Form) → SaysForm f (bytes ++ b ∷ []) → IsDraft (draft_after d (parts.Form f)) (bytes ++ b ∷ [])
  form_drafted f form =
      let eleven : length (bytes ++ b ∷ []) ≡ 11 = form.eleven in
      record {
        kind = λ five. kind_after (omega (arith, eleven, more));
        id = λ has nine. id_after (omega (arith, eleven, more)) has;
        form = λ kind there. form.value;
        words = λ kind there. absurd (two_contents form.content kind (λ same. cc));
      }

  sound_drafted : (x : ℕ) → SaysByte x (bytes ++ b ∷ []) → IsDraft d (bytes ++ b ∷ [])
  sound_drafted x byte =
      let far : 5 < length (bytes ++ b ∷ []) = byte.some in
      record {
        kind = λ five. kind_after (omega (arith, far, more));
        id = λ has nine. absurd (both_ways false refl (sym (sound_has_no_id (slice_index (bytes ++ b ∷ []) 0) byte.content) ∙ has));
        form = λ kind eleven. absurd (two_contents byte.content kind (λ same. cc));
        words = λ kind five. absurd (two_contents byte.content kind (λ same. cc));
      }

  drafted_by : (i : Part) → Says i (bytes ++ b ∷ []) → IsDraft (draft_after d i) (bytes ++ b ∷ [])
  drafted_by parts.Nothing s = nothing_drafted s
  drafted_by (parts.Begin k) s = kind_drafted k s.0 s.1
  drafted_by (parts.Id id) s = id_drafted id s.0 s.2
  drafted_by (parts.Word w) s = word_drafted w s
  drafted_by (parts.Form f) s = form_drafted f s
  drafted_by (parts.Byte x) s = sound_drafted x s

pub next_draft : (d : Draft) (bytes : List ℕ) (b : ℕ) → IsDraft d bytes → IsDraft (draft_after d (brought (next_bytes bytes b))) (next_bytes bytes b)
next_draft d bytes b is = elim (comes bytes b) [
  | Begins begins same ↦ subst (λ xs. IsDraft (draft_after d (brought xs)) xs) (sym same) (one_byte (draft_after d (brought (b ∷ []))) b)
  | Goes same some part ↦ subst (λ xs. IsDraft (draft_after d (brought xs)) xs) (sym same) (drafted_by d bytes b some is (brought (bytes ++ b ∷ [])) (says (bytes ++ b ∷ [])))
]

-- the room for words stays
pub room_stays : (d : Draft) (i : Part) → (draft_after d i).words.room ≡ d.words.room
room_stays d parts.Nothing = refl
room_stays d (parts.Begin k) = refl
room_stays d (parts.Id id) = refl
room_stays d (parts.Word w) = refl
room_stays d (parts.Form f) = refl
room_stays d (parts.Byte x) = refl
