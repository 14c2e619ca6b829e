-- What a receiver keeps of a text's segments.
use Rattle.std.specs.Prelude.{◌≡◌, ℕ, if◌then◌else◌, List, [], ◌∷◌, ◌++◌, length}
use Rattle.hk_spec_streams.specs.Station.{segments, heard_form}
use Rattle.hk_station_wire.specs.LastPacket.{gap_is_open}
use Rattle.hk_spec_streams.specs.Blocks.{Setting}
use Rattle.hk_block.specs.Ring.{MOST_PRINTS}
use Rattle.hk_receiver.specs.declared.segment.Segment.{Segment}
use Rattle.hk_receiver.specs.Segment.{HasBytes}

-- the most bytes that a stream's limit may be
abbrev pub MOST_BYTES : ℕ
MOST_BYTES = MOST_PRINTS

-- What is kept of the text's segments: the number and the bytes of the last one. In a gap that is open the next segment has begun, and has no byte.
pub record HasSegments (s : Setting) (segment : Segment) (text : List ℕ) : Type 0 where
  pub before : List (List ℕ)
  pub bytes : List ℕ
  pub are : segments text ≡ before ++ bytes ∷ (if gap_is_open text then [] ∷ [] else [])
  pub number : segment.number ≡ length before
  pub has : HasBytes s (heard_form text) segment bytes
