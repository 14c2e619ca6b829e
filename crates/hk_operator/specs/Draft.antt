-- What is kept of the open command.
use Rattle.std.specs.Prelude.{◌≡◌, ℕ, ◌≤◌, true, List, length, drop, slice_index, Some}
use Rattle.hk_spec_streams.specs.Commands as kinds
use Rattle.hk_spec_streams.specs.Commands.{Row, Words, SoundForm, row_of, has_id, content_of}
use Rattle.hk_spec_streams.specs.Operator.{Command, AddWords, OpenSong, Audio, Close, Withdraw, Publish, id_of, words_of}
use Rattle.hk_operator_wire.specs.declared.item.Part.{Part}
use Rattle.hk_operator_wire.specs.declared.item.Part.TheVariants as parts
use Rattle.hk_operator.specs.WordBuffer.{no_words, cleared, with_word, KeepsWords}
use Rattle.hk_operator.specs.Sound.{IsAllowedForm}
use Rattle.hk_operator.specs.declared.draft.Draft.{Draft}

abbrev pub new_draft : ℕ → Draft
new_draft room = record { kind = 0; id = 0; form = record { channels = 1; factor = 1 }; words = no_words room }

-- the draft with what a byte brings
abbrev pub draft_after : Draft → Part → Draft
draft_after draft (parts.Begin kind) = record draft { kind = kind; words = cleared draft.words }
draft_after draft (parts.Id id) = record draft { id = id }
draft_after draft (parts.Word word) = record draft { words = with_word draft.words word }
draft_after draft (parts.Form form) = record draft { form = form }
draft_after draft parts.Nothing = draft
draft_after draft (parts.Byte byte) = draft

-- The draft is that of a command of which these bytes came.
pub record IsDraft (draft : Draft) (bytes : List ℕ) : Type 0 where
  pub kind : 5 ≤ length bytes → draft.kind ≡ slice_index bytes 0
  pub id : has_id (slice_index bytes 0) ≡ true → 9 ≤ length bytes → draft.id ≡ id_of (drop 5 bytes)
  pub form : content_of (slice_index bytes 0) ≡ SoundForm → 11 ≤ length bytes → draft.form ≡ record { channels = slice_index bytes 9; factor = slice_index bytes 10 }
  pub words : content_of (slice_index bytes 0) ≡ Words → 5 ≤ length bytes → KeepsWords draft.words (words_of (drop 9 bytes))

-- The draft is that of a whole command of this kind.
abbrev pub DraftsAs : kinds.Kind → Draft → Command → Type 0
DraftsAs kinds.AddWords draft command = (words : List ℕ) × (command ≡ AddWords draft.id words) × KeepsWords draft.words words
DraftsAs kinds.OpenSong draft command = (command ≡ OpenSong draft.id draft.form) × IsAllowedForm draft.form
DraftsAs kinds.Audio draft command = (bytes : List ℕ) × (command ≡ Audio bytes)
DraftsAs kinds.Close draft command = command ≡ Close
DraftsAs kinds.Withdraw draft command = command ≡ Withdraw draft.id
DraftsAs kinds.Publish draft command = command ≡ Publish

-- The draft is that of this whole command.
pub record Drafts (draft : Draft) (command : Command) : Type 0 where
  pub row : Row
  pub is : row_of draft.kind ≡ Some row
  pub as_kind : DraftsAs row.kind draft command
