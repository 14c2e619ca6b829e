-- What a reader's part says of the open record's bytes, and what one more byte is.
use Rattle.std.specs.Prelude.{◌≡◌, ℕ, ◌+◌, ◌-◌, ◌<◌, ◌==◌, not, ◌&&◌, ◌||◌, nat_lt, if◌then◌else◌, List, [], ◌∷◌, ◌++◌, length, slice_index, slice_get, Bool, ⊤}
use Rattle.std.specs.Int.{w16, from_be_bytes}
use Rattle.std.specs.Option.{option_map_or}
use Rattle.hk_spec_streams.specs.Records.{STATION, OPERATOR, Arrival, ForStation, ForOperator, arrival_after, record_size}
use Rattle.hk_records.specs.declared.part.Owner.{Owner}
use Rattle.hk_records.specs.declared.part.Owner.TheVariants as owners
use Rattle.hk_records.specs.declared.part.Part.{Part}
use Rattle.hk_records.specs.declared.part.Part.TheVariants as parts
use Rattle.hk_records.specs.declared.reader.Came.{Came}
use Rattle.hk_records.specs.declared.reader.Came.TheVariants as came

-- a record's head without its length
abbrev pub head_bytes : Owner → List ℕ
head_bytes owners.Operator = OPERATOR ∷ []
head_bytes (owners.Station n) = STATION ∷ n ∷ []

-- the open record's bytes, of which a body has at least one to come
abbrev pub IsPart : Part → List ℕ → Type 0
IsPart parts.Letter bytes = bytes ≡ []
IsPart parts.Number bytes = bytes ≡ STATION ∷ []
IsPart (parts.High owner) bytes = bytes ≡ head_bytes owner
IsPart (parts.Low owner high) bytes = bytes ≡ head_bytes owner ++ high ∷ []
IsPart (parts.Body owner left) bytes = (high : ℕ) × (low : ℕ) × (payload : List ℕ) × (bytes ≡ head_bytes owner ++ high ∷ low ∷ payload)
    × (length payload + left ≡ from_be_bytes w16 (high ∷ low ∷ [])) × (0 < left)

-- how many bytes of an open record of a station come before its last one
abbrev pub left_ahead : Part → ℕ
left_ahead (parts.Body (owners.Station number) left) = left - 1
left_ahead (parts.Body owners.Operator left) = 0
left_ahead parts.Letter = 0
left_ahead parts.Number = 0
left_ahead (parts.High owner) = 0
left_ahead (parts.Low owner high) = 0

-- the owner is the operator, or one of so many stations
abbrev pub IsOneOf : ℕ → Owner → Type 0
IsOneOf stations owners.Operator = ⊤
IsOneOf stations (owners.Station number) = number < stations

-- the open record's owner is one of them, where it is known by now
abbrev pub HasOwner : ℕ → Part → Type 0
HasOwner stations parts.Letter = ⊤
HasOwner stations parts.Number = ⊤
HasOwner stations (parts.High owner) = IsOneOf stations owner
HasOwner stations (parts.Low owner high) = IsOneOf stations owner
HasOwner stations (parts.Body owner left) = IsOneOf stations owner

-- a byte of a station's stream is one of so many stations'
abbrev pub IsFor : ℕ → Came → Type 0
IsFor stations (came.Station number byte) = number < stations
IsFor stations came.Head = ⊤
IsFor stations (came.Operator byte) = ⊤
IsFor stations (came.Bad trouble) = ⊤

-- the same of a record's bytes that may be all of it: then nothing is open
abbrev pub IsPartUnlessWhole : Part → List ℕ → Type 0
IsPartUnlessWhole part bytes = IsPart part (if record_size bytes == length bytes then [] else bytes)

-- an arrival as the reader tells it
abbrev pub told : Arrival → Came
told (ForStation number byte) = came.Station number byte
told (ForOperator byte) = came.Operator byte

-- what the byte after an open record's bytes is
abbrev pub came_behind : List ℕ → ℕ → Came
came_behind bytes byte = option_map_or told (slice_get (arrival_after bytes byte) 0) came.Head

-- an open record's last byte is a wrong letter, or the number of no station
abbrev pub has_bad_head : ℕ → List ℕ → Bool
has_bad_head stations bytes =
    ((length bytes == 1) && not ((slice_index bytes 0 == STATION) || (slice_index bytes 0 == OPERATOR)))
    || ((length bytes == 2) && (slice_index bytes 0 == STATION) && not (nat_lt (slice_index bytes 1) stations))
