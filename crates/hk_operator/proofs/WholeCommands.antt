-- A whole command: its draft and its sound.
use Rattle.std.proofs.Common.{◌≡◌, ℕ, ◌+◌, ◌%◌, ◌≤◌, List, length, take, drop, refl, sym, ◌∙◌, ap, subst, arith, Some, None, cond}
use Rattle.std.specs.Prelude.{◌==◌, nat_le, slice_index, option_map}
use Rattle.std.specs.Int.{w32, from_be_bytes}
use Rattle.std.proofs.lemmas.Bool.{eqb-true, eq-eqb, and_parts, leb-true}
use Rattle.std.proofs.lemmas.List.{drop-drop, get_or-drop}
use Rattle.hk_spec_streams.specs.Grammar.{packet_size}
use Rattle.hk_spec_streams.specs.Commands.{Row, ADD_WORDS, OPEN_SONG, AUDIO, CLOSE, WITHDRAW, PUBLISH, row_of}
use Rattle.hk_base.specs.declared.plain.Form.{Form}
use Rattle.hk_spec_streams.specs.Operator.{Command, AddWords, OpenSong, Withdraw, command_of, command_for, words_of}
use Rattle.hk_spec_streams.proofs.CommandRows.{by_row}
use Rattle.hk_spec_streams.proofs.GrowingCommands.{whole_command}
use Rattle.hk_operator_wire.specs.Taken.{IsGoodSoFar}
use Rattle.hk_operator_wire.proofs.Ending.{content_is, has_id_is, fits_is, no_row}
use Rattle.hk_operator.specs.Draft.{IsDraft, Drafts, DraftsAs}
use Rattle.hk_operator.specs.WordBuffer.{KeepsWords}
use Rattle.hk_operator.specs.Sound.{IsAllowedForm, sound_of, sound_if, sound_there}
use Rattle.hk_operator.specs.declared.draft.Draft.{Draft}

-- a whole command, with its draft and its sound
pub record IsWhole (d : Draft) (bytes : List ℕ) : Type 0 where
  pub command : Command
  pub is : whole_command bytes ≡ Some command
  pub draft : Drafts d command
  pub sound : sound_of command ≡ sound_there bytes

module _ (d : Draft) (bytes : List ℕ) (order : IsGoodSoFar bytes) (is : IsDraft d bytes) (whole : packet_size w32 bytes ≡ length bytes) where
  payload : 5 + from_be_bytes w32 (take 4 (drop 1 bytes)) ≡ length bytes
  payload = omega (arith, whole)

  long_enough : 5 ≤ length bytes
  long_enough = omega (arith, payload)

  -- the command of a row, whose draft and sound are these
  whole_as : (row : Row) → row_of (slice_index bytes 0) ≡ Some row → DraftsAs row.kind d (command_of row.kind (drop 5 bytes))
      → sound_of (command_of row.kind (drop 5 bytes)) ≡ sound_if row.content (drop 5 bytes) → IsWhole d bytes
  whole_as row at drafts sound = record {
    command = command_of row.kind (drop 5 bytes);
    is = ap (λ t. cond t (command_for (slice_index bytes 0) (drop 5 bytes)) None) (eq-eqb _ _ whole) ∙ ap (option_map (λ r. command_of r.kind (drop 5 bytes))) at;
    draft = record { row = row; is = ap row_of (is.kind long_enough) ∙ at; as_kind = drafts };
    sound = sound ∙ sym (ap (λ c. sound_if c (drop 5 bytes)) (content_is bytes order row at));
  }

  added : row_of (slice_index bytes 0) ≡ Some ADD_WORDS → IsWhole d bytes
  added at =
      let n : ℕ = from_be_bytes w32 (take 4 (drop 1 bytes)) in
      let least : 4 ≤ from_be_bytes w32 (take 4 (drop 1 bytes)) = leb-true 4 n (and_parts (nat_le 4 n) (n % 4 == 0) (fits_is bytes order ADD_WORDS at long_enough)).0 in
      whole_as ADD_WORDS at (
        words_of (drop 4 (drop 5 bytes)),
        ap (λ id. AddWords id (words_of (drop 4 (drop 5 bytes)))) (sym (is.id (has_id_is bytes order ADD_WORDS at) (omega (arith, payload, least)))),
        subst (λ xs. KeepsWords d.words (words_of xs)) (sym (drop-drop 4 5 bytes)) (is.words (content_is bytes order ADD_WORDS at) long_enough),
      ) refl

  opened : row_of (slice_index bytes 0) ≡ Some OPEN_SONG → IsWhole d bytes
  opened at =
      let n : ℕ = from_be_bytes w32 (take 4 (drop 1 bytes)) in
      let six : from_be_bytes w32 (take 4 (drop 1 bytes)) ≡ 6 = eqb-true n 6 (fits_is bytes order OPEN_SONG at long_enough) in
      let content = content_is bytes order OPEN_SONG at in
      let form : d.form ≡ record { channels = slice_index bytes 9; factor = slice_index bytes 10 } = is.form content (omega (arith, payload, six)) in
      let sent : Form = record { channels = slice_index (drop 5 bytes) 4; factor = slice_index (drop 5 bytes) 5 } in
      whole_as OPEN_SONG at (
        ap (λ id. OpenSong id sent) (sym (is.id (has_id_is bytes order OPEN_SONG at) (omega (arith, payload, six))))
            ∙ ap (λ c. OpenSong d.id (record { channels = c; factor = slice_index (drop 5 bytes) 5 })) (get_or-drop 5 bytes 4 0)
            ∙ ap (λ f. OpenSong d.id (record { channels = slice_index bytes 9; factor = f })) (get_or-drop 5 bytes 5 0)
            ∙ ap (OpenSong d.id) (sym form),
        subst IsAllowedForm (sym form) (order.channels content (omega (arith, payload, six)), order.factor content (omega (arith, payload, six))),
      ) refl

  withdrawn : row_of (slice_index bytes 0) ≡ Some WITHDRAW → IsWhole d bytes
  withdrawn at =
      let n : ℕ = from_be_bytes w32 (take 4 (drop 1 bytes)) in
      let four : from_be_bytes w32 (take 4 (drop 1 bytes)) ≡ 4 = eqb-true n 4 (fits_is bytes order WITHDRAW at long_enough) in
      whole_as WITHDRAW at (ap Withdraw (sym (is.id (has_id_is bytes order WITHDRAW at) (omega (arith, payload, four))))) refl

  pub whole_is : IsWhole d bytes
  whole_is = by_row (λ o. row_of (slice_index bytes 0) ≡ o → IsWhole d bytes) (slice_index bytes 0)
      (λ none. absurd (no_row bytes order (omega (arith, long_enough)) none))
      added opened (λ at. whole_as AUDIO at (drop 5 bytes, refl) refl) (λ at. whole_as CLOSE at refl refl) withdrawn (λ at. whole_as PUBLISH at refl refl) refl
