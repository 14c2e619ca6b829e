-- The packet that a station's last byte belongs to, and what that byte is in it.
use Rattle.std.specs.Prelude.{ℕ, ◌-◌, ◌==◌, Bool, ◌&&◌, nat_lt, List, [], length, slice_index, flat_map, None}
use Rattle.std.specs.Option.{option_map_or}
use Rattle.std.specs.List.{last_or}
use Rattle.hk_base.specs.declared.plain.Print.{Print}
use Rattle.hk_spec_streams.specs.Pieces.{last_bytes}
use Rattle.hk_spec_streams.specs.Grammar.{packets, head_size}
use Rattle.hk_spec_streams.specs.Station.{station_grammar, width_in, segments, sent_prints, DATA, GAP}

-- the bytes of the last packet that are there
abbrev pub last_packet : List ℕ → List ℕ
last_packet text = last_bytes (packets station_grammar text)

abbrev pub last_byte : List ℕ → ℕ
last_byte text = slice_index text (length text - 1)

-- the kind byte of a gap
abbrev pub begins_gap : List ℕ → Bool
begins_gap text = (length (last_packet text) == 1) && (slice_index (last_packet text) 0 == GAP)

-- the last byte of a gap
abbrev pub ends_gap : List ℕ → Bool
ends_gap text = (length (last_packet text) == head_size (width_in text)) && (slice_index (last_packet text) 0 == GAP)

-- a gap has begun and hasn't ended
abbrev pub gap_is_open : List ℕ → Bool
gap_is_open text = (slice_index (last_packet text) 0 == GAP) && nat_lt (length (last_packet text)) (head_size (width_in text))

-- a payload byte of a data packet
abbrev pub ends_with_data : List ℕ → Bool
ends_with_data text = (slice_index (last_packet text) 0 == DATA) && nat_lt (head_size (width_in text)) (length (last_packet text))

-- the prints that were sent, segment after segment
abbrev pub all_sent_prints : List ℕ → List Print
all_sent_prints text = flat_map sent_prints (segments text)

-- the segment that the next data byte belongs to
abbrev pub last_segment : List ℕ → List ℕ
last_segment text = option_map_or (λ segment. segment) (last_or None (segments text)) []
