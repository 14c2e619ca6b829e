-- A wire and the text that it has taken.
use Rattle.std.specs.Prelude.{◌≡◌, ℕ, List, [], ◌∷◌, ◌++◌, if◌then◌else◌, Option, Some, None, Result, Ok, Err}
use Rattle.hk_base.specs.declared.plain.WireFault.{WireFault}
use Rattle.hk_station_wire.specs.declared.item.Item.{Item}
use Rattle.hk_station_wire.specs.declared.reader.Reader.{Reader}
use Rattle.hk_station_wire.specs.declared.wire.Wire.{Wire}
use Rattle.hk_wire.specs.Held.{gathered, IsLast, count_of}
use Rattle.hk_wire.specs.Kept.{Keeps}
use Rattle.hk_station_wire.specs.Items.{item_of, carries_prints}
use Rattle.hk_spec_sound.specs.Groups.{rest_of}
use Rattle.hk_spec_streams.specs.Station.{HasTold, station_met}
use Rattle.hk_station_wire.specs.LastPacket.{last_packet, last_segment}

-- how many bytes of the last packet came
abbrev pub packet_count : Reader → ℕ
packet_count reader = count_of reader.packet

-- what the last segment has beyond its whole prints, where the stream carries prints
abbrev pub unfinished_print : List ℕ → List ℕ
unfinished_print text = if carries_prints text then rest_of 8 (last_segment text) else []

-- The reader stands at the end of a text without a fault: it has what the hello told, the last packet and the unfinished print.
pub record StandsAfter (reader : Reader) (text : List ℕ) : Type 0 where
  pub told : HasTold text reader.told
  pub packet : IsLast reader.packet (last_packet text)
  pub group : gathered reader.group ≡ unfinished_print text

-- The same behind the hello, where one byte more came to the last packet and to nothing else yet.
pub record HasByte (reader : Reader) (text : List ℕ) (byte : ℕ) : Type 0 where
  pub told : HasTold text reader.told
  pub packet : IsLast reader.packet (last_packet (text ++ byte ∷ []))
  pub group : gathered reader.group ≡ unfinished_print text

-- the last byte of a text without a fault before it: what it brings, or the fault that it meets
abbrev pub TellsItem : Result Item WireFault → Reader → ℕ → List ℕ → Type 0
TellsItem (Ok item) reader limit text = (station_met limit text ≡ None) × (item ≡ item_of text) × StandsAfter reader text
TellsItem (Err fault) reader limit text = station_met limit text ≡ Some fault

-- at most so many bytes are taken
abbrev pub limit_of : Wire → ℕ
limit_of wire = wire.passage.limit

-- how many bytes were taken before the fault, or in all
abbrev pub count_taken : Wire → ℕ
count_taken wire = wire.passage.taken

-- the fault that the wire has met
abbrev pub fault_met : Wire → Option WireFault
fault_met wire = wire.passage.fault

-- The wire has taken this text: it keeps the text's fault, and where there is none it stands at the text's end.
pub record HasTaken (wire : Wire) (text : List ℕ) : Type 0 where
  pub keeps : Keeps station_met wire.passage text
  pub stands : wire.passage.fault ≡ None → StandsAfter wire.reader text
