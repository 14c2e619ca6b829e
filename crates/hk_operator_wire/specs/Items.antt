-- What an operator's text says of its last byte.
use Rattle.std.specs.Prelude.{ℕ, ◌-◌, ◌%◌, ◌==◌, Bool, true, false, ◌&&◌, if◌then◌else◌, nat_lt, List, length, drop, slice_index, ⊤}
use Rattle.std.specs.Int.{w32, from_be_bytes}
use Rattle.std.specs.Option.{option_map_or}
use Rattle.hk_wire.specs.Held.{length_in}
use Rattle.hk_wire.specs.declared.packet.LengthSize.TheVariants.{Four}
use Rattle.hk_operator_wire.specs.declared.head.CommandHead.{CommandHead}
use Rattle.hk_operator_wire.specs.declared.item.OpItem.{OpItem}
use Rattle.hk_operator_wire.specs.declared.item.OpItem.TheVariants as items
use Rattle.hk_operator_wire.specs.declared.item.OpLast.TheVariants as lasts
use Rattle.hk_operator_wire.specs.declared.item.Part.{Part}
use Rattle.hk_operator_wire.specs.declared.item.Part.TheVariants as parts
use Rattle.hk_spec_streams.specs.Pieces.{last_bytes}
use Rattle.hk_spec_streams.specs.Commands.{Row, Content, Words, SoundForm, Sound, Nothing, row_of}
use Rattle.hk_spec_streams.specs.Grammar.{packets, packet_size}
use Rattle.hk_spec_streams.specs.Operator.{operator_grammar, operator_fault}

-- the bytes of the last command that are there: a kind, four bytes of length, and the payload
abbrev pub last_command : List ℕ → List ℕ
last_command text = last_bytes (packets operator_grammar text)

-- these bytes are a whole command
abbrev pub is_whole_command : List ℕ → Bool
is_whole_command bytes = packet_size w32 bytes == length bytes

-- what the first bytes of a command say
abbrev pub head_of : List ℕ → CommandHead
head_of bytes = record {
  kind = slice_index bytes 0;
  count = length bytes;
  length = length_in Four bytes;
  channels = slice_index bytes 9;
  factor = slice_index bytes 10;
}

-- the last four bytes as a number
abbrev pub last_number : List ℕ → ℕ
last_number bytes = from_be_bytes w32 (drop (length bytes - 4) bytes)

-- What the last byte of a command brings, by what the command's first bytes say and its last four bytes as a number: a word
-- with each four bytes behind the id, the form with the sixth payload byte, and each byte of sound.
abbrev pub content_brought : Content → CommandHead → ℕ → ℕ → Part
content_brought Words head number byte = if nat_lt 4 (head.count - 5) && ((head.count - 5) % 4 == 0) then parts.Word number else parts.Nothing
content_brought SoundForm head number byte = if head.count - 5 == 6 then parts.Form (record { channels = head.channels; factor = head.factor }) else parts.Nothing
content_brought Sound head number byte = if nat_lt 0 (head.count - 5) then parts.Byte byte else parts.Nothing
content_brought Nothing head number byte = parts.Nothing

-- the id comes with the fourth payload byte
abbrev pub row_brought : Row → CommandHead → ℕ → ℕ → Part
row_brought row head number byte = if row.has_id && (head.count == 9) then parts.Id number else content_brought row.content head number byte

-- the kind comes with the last length byte
abbrev pub brought_by : CommandHead → ℕ → ℕ → Part
brought_by head number byte =
    if head.count == 5 then parts.Begin head.kind else option_map_or (λ row. row_brought row head number byte) (row_of head.kind) parts.Nothing

abbrev pub brought : List ℕ → Part
brought bytes = brought_by (head_of bytes) (last_number bytes) (slice_index bytes (length bytes - 1))

-- the item of a byte that brings this, by whether it ends its command
abbrev pub joined : Part → Bool → OpItem
joined parts.Nothing true = items.Complete
joined (parts.Begin kind) true = items.Both (lasts.BeginComplete kind)
joined (parts.Id id) true = items.Both (lasts.IdComplete id)
joined (parts.Word word) true = items.Both (lasts.WordComplete word)
joined (parts.Form form) true = items.Both (lasts.FormComplete form)
joined (parts.Byte byte) true = items.Both (lasts.ByteComplete byte)
joined parts.Nothing false = items.Nothing
joined (parts.Begin kind) false = items.Begin kind
joined (parts.Id id) false = items.Id id
joined (parts.Word word) false = items.Word word
joined (parts.Form form) false = items.Form form
joined (parts.Byte byte) false = items.Byte byte

-- what an item brings, and whether it ends its command
abbrev pub part_of : OpItem → Part
part_of (items.Begin kind) = parts.Begin kind
part_of (items.Id id) = parts.Id id
part_of (items.Word word) = parts.Word word
part_of (items.Form form) = parts.Form form
part_of (items.Byte byte) = parts.Byte byte
part_of (items.Both (lasts.BeginComplete kind)) = parts.Begin kind
part_of (items.Both (lasts.IdComplete id)) = parts.Id id
part_of (items.Both (lasts.WordComplete word)) = parts.Word word
part_of (items.Both (lasts.FormComplete form)) = parts.Form form
part_of (items.Both (lasts.ByteComplete byte)) = parts.Byte byte
part_of items.Nothing = parts.Nothing
part_of items.Complete = parts.Nothing
part_of (items.Fault fault) = parts.Nothing

abbrev pub ends : OpItem → Bool
ends (items.Both last) = true
ends items.Complete = true
ends items.Nothing = false
ends (items.Begin kind) = false
ends (items.Id id) = false
ends (items.Word word) = false
ends (items.Form form) = false
ends (items.Byte byte) = false
ends (items.Fault fault) = false

-- a command ends with something, and a form ends its command
abbrev pub IsPossible : OpItem → Type 0
IsPossible items.Complete = ⊥
IsPossible (items.Form form) = ⊥
IsPossible items.Nothing = ⊤
IsPossible (items.Begin kind) = ⊤
IsPossible (items.Id id) = ⊤
IsPossible (items.Word word) = ⊤
IsPossible (items.Byte byte) = ⊤
IsPossible (items.Both last) = ⊤
IsPossible (items.Fault fault) = ⊤

abbrev pub item_of : List ℕ → OpItem
item_of bytes = joined (brought bytes) (is_whole_command bytes)

-- the text's fault where it has one, and else what its last byte brings
unfoldable pub op_item_at : ℕ → List ℕ → OpItem
op_item_at limit text = option_map_or (λ fault. items.Fault fault) (operator_fault limit text) (item_of (last_command text))
