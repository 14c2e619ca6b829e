-- A wire and the text that it has taken.
use Rattle.std.specs.Prelude.{◌≡◌, ℕ, ◌≤◌, ◌<◌, true, List, [], ◌∷◌, ◌++◌, length, take, drop, slice_index, Option, Some, None, is_some}
use Rattle.std.specs.Int.{w32, from_be_bytes}
use Rattle.hk_base.specs.declared.plain.WireFault.{WireFault}
use Rattle.hk_operator_wire.specs.declared.reader.OpReader.{OpReader}
use Rattle.hk_operator_wire.specs.declared.wire.OpWire.{OpWire}
use Rattle.hk_wire.specs.Held.{IsLast, count_of}
use Rattle.hk_wire.specs.Kept.{Keeps, passage_limit, fault_kept}
use Rattle.hk_spec_sound.specs.Limits.{CHANNELS, FACTORS}
use Rattle.hk_spec_streams.specs.Pieces.{is_one_of}
use Rattle.hk_spec_streams.specs.Grammar.{packet_size}
use Rattle.hk_spec_streams.specs.Commands.{SoundForm, row_of, command_length_fits, content_of}
use Rattle.hk_spec_streams.specs.Operator.{operator_met}
use Rattle.hk_operator_wire.specs.declared.item.OpItem.{OpItem}
use Rattle.hk_operator_wire.specs.declared.item.OpItem.TheVariants as items
use Rattle.hk_operator_wire.specs.Items.{last_command, op_item_at, IsPossible}
use Rattle.hk_operator_wire.specs.Heads.{HasLastFour}

-- the bytes of a command that has no fault so far
pub record IsGoodSoFar (bytes : List ℕ) : Type 0 where
  pub kind : 0 < length bytes → is_some (row_of (slice_index bytes 0)) ≡ true
  pub fits : 5 ≤ length bytes → command_length_fits (slice_index bytes 0) (from_be_bytes w32 (take 4 (drop 1 bytes))) ≡ true
  pub channels : content_of (slice_index bytes 0) ≡ SoundForm → 10 ≤ length bytes → is_one_of CHANNELS (slice_index bytes 9) ≡ true
  pub factor : content_of (slice_index bytes 0) ≡ SoundForm → 11 ≤ length bytes → is_one_of FACTORS (slice_index bytes 10) ≡ true
  pub within : length bytes ≤ packet_size w32 bytes

-- how many bytes of the last command came
abbrev pub command_count : OpReader → ℕ
command_count reader = count_of reader.packet

-- The reader stands at the end of a text without a fault: it has the last command's first bytes and its last four.
pub record StandsAfter (reader : OpReader) (text : List ℕ) : Type 0 where
  pub packet : IsLast reader.packet (last_command text)
  pub recent : HasLastFour reader.recent (last_command text)
  pub order : IsGoodSoFar (last_command text)

-- at most so many bytes are taken
abbrev pub limit_of : OpWire → ℕ
limit_of wire = passage_limit wire.passage

-- the fault that the wire has met
abbrev pub fault_met : OpWire → Option WireFault
fault_met wire = fault_kept wire.passage

-- The wire has taken this text: it keeps the text's fault, and where there is none it stands at the text's end.
pub record HasTaken (wire : OpWire) (text : List ℕ) : Type 0 where
  pub keeps : Keeps operator_met wire.passage text
  pub stands : fault_kept wire.passage ≡ None → StandsAfter wire.reader text

-- What a wire gives for a byte, and is after it: by the text that it has taken, and after a fault that fault again.
pub record Pushes (old : OpWire) (byte : ℕ) (new : OpWire) (result : OpItem) : Type 0 where
  pub item : (text : List ℕ) → HasTaken old text → result ≡ op_item_at (limit_of old) (text ++ byte ∷ [])
  pub possible : (text : List ℕ) → HasTaken old text → IsPossible result
  pub taken : (text : List ℕ) → HasTaken old text → HasTaken new (text ++ byte ∷ [])
  pub limit_stays : limit_of new ≡ limit_of old
  pub same_fault : (fault : WireFault) → fault_met old ≡ Some fault → result ≡ items.Fault fault
  pub fault_changes_nothing : (fault : WireFault) → fault_met old ≡ Some fault → new ≡ old
