-- What a reader has read, and what it tells of the last byte.
use Rattle.std.specs.Prelude.{◌≡◌, ℕ, ◌+◌, ◌-◌, ◌≤◌, min, List, [], length, Option, Some, None, Result, MatchResult, ⊤, slice_get}
use Rattle.std.specs.Option.{option_map_or}
use Rattle.hk_base.specs.declared.plain.Trouble.{Trouble}
use Rattle.hk_spec_streams.specs.Pieces.{completed}
use Rattle.hk_spec_streams.specs.Records.{arrivals, input_fault, input_met, input_wrong, open_bytes}
use Rattle.hk_records.specs.Part.{IsPart, HasOwner, left_ahead, told}
use Rattle.hk_records.specs.declared.reader.RecordReader.{RecordReader}
use Rattle.hk_records.specs.declared.reader.Came.{Came}
use Rattle.hk_records.specs.declared.reader.Came.TheVariants.{Head, Station, Operator, Bad}

abbrev pub stations_of : RecordReader → ℕ
stations_of reader = reader.stations

abbrev pub input_limit : RecordReader → ℕ
input_limit reader = reader.limit

-- the fault that the reader has met
abbrev pub trouble_met : RecordReader → Option Trouble
trouble_met reader = reader.fault

-- how many bytes of a station's stream come next, whatever they are
abbrev pub bytes_ahead : RecordReader → ℕ
bytes_ahead reader = min (left_ahead reader.part) (reader.limit - reader.taken)

-- The reader has read this text, which has no fault: it knows how long it is, where the open record begins, how far that has come, and
-- whose it is.
pub record HasRead (reader : RecordReader) (text : List ℕ) : Type 0 where
  pub taken : reader.taken ≡ length text
  pub within : reader.taken ≤ reader.limit
  pub none_met : reader.fault ≡ None
  pub no_fault : input_fault reader.stations reader.limit text ≡ None
  pub begun : (open_bytes text ≡ [] → ⊥) → reader.begun + length (open_bytes text) ≡ length text
  pub part : IsPart reader.part (open_bytes text)
  pub known : HasOwner reader.stations reader.part

-- what the last byte of a text is: its fault, what arrives with it, or part of a head
abbrev pub came_at : ℕ → ℕ → List ℕ → Came
came_at stations limit text =
    option_map_or (λ trouble. Bad trouble) (input_met stations limit text) (option_map_or told (slice_get (completed arrivals text) 0) Head)

-- the byte has no fault
abbrev pub IsGood : Came → Type 0
IsGood (Bad trouble) = ⊥
IsGood Head = ⊤
IsGood (Station number byte) = ⊤
IsGood (Operator byte) = ⊤

-- how a text ends: in order, or with what is wrong with the whole of it
abbrev pub EndsWith : {A : Type 0} → ℕ → ℕ → List ℕ → Result A Trouble → Type 0
EndsWith stations limit text result = MatchResult result (λ _. input_wrong stations limit text ≡ None) (λ trouble. input_wrong stations limit text ≡ Some trouble)
