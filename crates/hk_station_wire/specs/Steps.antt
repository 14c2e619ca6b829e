-- What one byte does where no fault was met, by the few values that are kept.
use Rattle.std.specs.Prelude.{ℕ, ◌+◌, ◌-◌, ◌==◌, Bool, not, ◌&&◌, if◌then◌else◌, nat_lt, count_ones, List, [], ◌∷◌, length, Option, Ok, Err, Result}
use Rattle.hk_base.specs.declared.plain.WireFault.{WireFault}
use Rattle.hk_base.specs.declared.plain.WireFault.TheVariants.{BadKind, BadLength, BadMask}
use Rattle.hk_station_wire.specs.declared.item.Item.{Item}
use Rattle.hk_station_wire.specs.declared.item.Item.TheVariants.{Nothing, Print}
use Rattle.hk_station_wire.specs.declared.reader.Part.{Part}
use Rattle.hk_station_wire.specs.declared.reader.Part.TheVariants.{Data, FenceEnd, GapBegin, GapEnd, Other}
use Rattle.hk_spec_streams.specs.Pieces.{first_that_holds, is_one_of}
use Rattle.hk_spec_streams.specs.Station.{station_grammar, station_length_fits, sent_print, DATA, FENCE, GAP}

abbrev pub is_kind : ℕ → Bool
is_kind kind = is_one_of station_grammar.kinds kind

-- what is wrong with a packet's head of that size, of which so many bytes came, the last of them at this place
abbrev pub head_fault : ℕ → ℕ → ℕ → ℕ → ℕ → Option WireFault
head_fault size place count kind packet_length = first_that_holds (
    ((count == 1) && not (is_kind kind), BadKind place)
    ∷ ((count == size) && not (station_length_fits kind packet_length), BadLength (place - (size - 2))) ∷ [])

-- what the last of so many bytes is in a packet of this kind, whose head has that size
abbrev pub part_of : ℕ → ℕ → ℕ → Part
part_of size kind count =
    if (kind == DATA) && nat_lt size count then Data
    else if (kind == FENCE) && (count == size + 4) then FenceEnd
    else if (kind == GAP) && (count == 1) then GapBegin
    else if (kind == GAP) && (count == size) then GapEnd else Other

-- what is kept of the bytes of a print
abbrev pub left_of_print : List ℕ → List ℕ
left_of_print bytes = if nat_lt (length bytes) 8 then bytes else []

-- what they bring
abbrev pub print_outcome : ℕ → List ℕ → Result Item WireFault
print_outcome place bytes =
    if nat_lt (length bytes) 8 then Ok Nothing
    else if nat_lt 10 (count_ones (sent_print bytes).mask) then Err (BadMask place) else Ok (Print (sent_print bytes))
