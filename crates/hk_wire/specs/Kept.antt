-- What a passage keeps of its text's fault, where `met limit` says what a text's last byte meets.
use Rattle.std.specs.Prelude.{◌≡◌, ℕ, List, [], ◌∷◌, ◌++◌, length, Option, Some}
use Rattle.hk_base.specs.declared.plain.WireFault.{WireFault}
use Rattle.hk_base.specs.declared.plain.WireFault.TheVariants.{TooLong}
use Rattle.hk_spec_streams.specs.Pieces.{fault_of, seen_of}
use Rattle.hk_wire.specs.declared.passage.Passage.{Passage}

-- what a text's last byte meets, by the most bytes that are taken
abbrev pub Met : Type 0
Met = ℕ → List ℕ → Option WireFault

-- a byte behind so many meets TooLong
abbrev pub EndsAtLimit : Met → Type 0
EndsAtLimit met = (text : List ℕ) (byte : ℕ) → met (length text) (text ++ byte ∷ []) ≡ Some (TooLong (length text))

-- at most so many bytes are taken
abbrev pub passage_limit : Passage → ℕ
passage_limit passage = passage.limit

abbrev pub bytes_taken : Passage → ℕ
bytes_taken passage = passage.taken

abbrev pub fault_kept : Passage → Option WireFault
fault_kept passage = passage.fault

-- The passage has the text's fault, and the number of bytes that came before it.
pub record Keeps (met : Met) (passage : Passage) (text : List ℕ) : Type 0 where
  pub fault_is : passage.fault ≡ fault_of (met passage.limit) text
  pub taken_is : passage.taken ≡ length (seen_of (met passage.limit) text)
