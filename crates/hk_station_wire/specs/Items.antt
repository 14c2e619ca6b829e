-- What a station's text says of its last byte.
use Rattle.std.specs.Prelude.{ℕ, ⊤, ◌==◌, Bool, true, false, not, ◌&&◌, if◌then◌else◌, List, [], ◌∷◌, ◌++◌, map, slice_index_or}
use Rattle.std.specs.Option.{option_map_or}
use Rattle.hk_station_wire.specs.declared.item.Item.{Item}
use Rattle.hk_station_wire.specs.declared.item.Item.TheVariants.{Nothing, Hello, Byte, Print, Fence, Gap, Fault}
use Rattle.hk_spec_streams.specs.Pieces.{completed}
use Rattle.hk_spec_streams.specs.Station.{MayTell, ends_hello, form_of, station_fault, channels_of, fences}
use Rattle.hk_station_wire.specs.Says.{SaysNothing, SaysHello, SaysByte, SaysPrint, SaysFence, SaysGap, SaysFault}
use Rattle.hk_station_wire.specs.LastPacket.{last_byte, ends_with_data, ends_gap, all_sent_prints}

abbrev pub carries_prints : List ℕ → Bool
carries_prints text = channels_of text == 0

-- this item is a fault
abbrev pub is_fault : Item → Bool
is_fault (Fault fault) = true
is_fault Nothing = false
is_fault (Hello form) = false
is_fault (Byte byte) = false
is_fault (Print print) = false
is_fault (Fence asked) = false
is_fault Gap = false

-- the form that an item tells is one that a hello may have
abbrev pub HasForm : Item → Type 0
HasForm (Hello form) = MayTell form
HasForm Nothing = ⊤
HasForm (Byte byte) = ⊤
HasForm (Print print) = ⊤
HasForm (Fence asked) = ⊤
HasForm Gap = ⊤
HasForm (Fault fault) = ⊤

-- what the item tells that a byte behind a text brings
abbrev pub Says : Item → ℕ → List ℕ → ℕ → Type 0
Says Nothing limit text byte = SaysNothing limit text byte
Says (Hello form) limit text byte = SaysHello form limit text byte
Says (Byte sound) limit text byte = SaysByte sound limit text byte
Says (Print print) limit text byte = SaysPrint print limit text byte
Says (Fence asked) limit text byte = SaysFence asked limit text byte
Says Gap limit text byte = SaysGap limit text byte
Says (Fault fault) limit text byte = SaysFault fault limit text byte

-- one item where the test passes
abbrev pub one_if : {A : Type 0} → Bool → A → List A
one_if true x = x ∷ []
one_if false x = []

-- What the last byte brings, by the whole text; no byte brings two items.
unfoldable pub items_of : List ℕ → List Item
items_of text =
    one_if (ends_hello text) (Hello (form_of text))
    ++ one_if (not (carries_prints text) && ends_with_data text) (Byte (last_byte text))
    ++ map Print (if carries_prints text then completed all_sent_prints text else [])
    ++ map (λ fence. Fence fence.asked) (completed fences text)
    ++ one_if (ends_gap text) Gap

-- the item among them, and Nothing where there is none
abbrev pub item_of : List ℕ → Item
item_of text = slice_index_or (items_of text) 0 Nothing

-- the text's fault where it has one, and else what its last byte brings
unfoldable pub item_at : ℕ → List ℕ → Item
item_at limit text = option_map_or (λ fault. Fault fault) (station_fault limit text) (item_of text)
