-- A receiver and the text that it has received.
use Rattle.std.specs.Prelude.{◌≡◌, ℕ, List, [], ◌∷◌, ◌++◌, map, length, None, Some}
use Rattle.hk_spec_streams.specs.Station.{Fence, station_fault, station_met, fences}
use Rattle.hk_spec_streams.specs.Blocks.{Block, blocks}
use Rattle.hk_spec_settings.specs.Settings.{Rules}
use Rattle.hk_station_wire.specs.Taken as wires
use Rattle.hk_block.specs.Ring.{Ring, block_in}
use Rattle.hk_receiver.specs.declared.receiver.Receiver.{Receiver}
use Rattle.hk_receiver.specs.declared.receiver.Received.{Received}
use Rattle.hk_receiver.specs.declared.receiver.Received.TheVariants as received
use Rattle.hk_receiver.specs.Kept.{HasSegments}

-- fences that end at a place
abbrev pub fences_at : ℕ → List ℕ → List Fence
fences_at place asks = map (λ asked. record { asked = asked; place = place }) asks

abbrev pub ring_of : Receiver → Ring
ring_of receiver = receiver.segment.ring

abbrev pub segment_of : Receiver → ℕ
segment_of receiver = receiver.segment.number

-- the block that the last print of its ring completed
abbrev pub block_of : Receiver → Block
block_of receiver = block_in (segment_of receiver) (ring_of receiver)

-- how many blocks the stream has brought
abbrev pub block_count : Receiver → ℕ
block_count receiver = receiver.blocks

-- The receiver has received this text, which has no fault; it was made for these rules.
pub record HasReceived (rules : Rules) (receiver : Receiver) (text : List ℕ) : Type 0 where
  pub limit : wires.limit_of receiver.wire ≡ rules.bytes
  pub bytes : wires.HasTaken receiver.wire text
  pub no_fault : station_fault rules.bytes text ≡ None
  pub holds : HasSegments rules.setting receiver.segment text
  pub blocks_are : receiver.blocks ≡ length (blocks rules.setting text)

-- a fact of each text that the receiver has received
abbrev pub ForEachText : Receiver → (Rules → List ℕ → Type 0) → Type 0
ForEachText receiver P = (rules : Rules) (text : List ℕ) → HasReceived rules receiver text → P rules text

-- A byte without a fault: the receiver goes on, and the blocks and fences of the text grow by these.
pub record Brings (rules : Rules) (text : List ℕ) (byte : ℕ) (receiver : Receiver) (more : List Block) (asks : List ℕ) : Type 0 where
  pub meets_none : station_met rules.bytes (text ++ byte ∷ []) ≡ None
  pub goes_on : HasReceived rules receiver (text ++ byte ∷ [])
  pub more_blocks : blocks rules.setting (text ++ byte ∷ []) ≡ blocks rules.setting text ++ more
  pub more_fences : fences (text ++ byte ∷ []) ≡ fences text ++ fences_at (length text) asks

-- what is told of a text's next byte
abbrev pub Tells : Received → Rules → List ℕ → ℕ → Receiver → Type 0
Tells received.Nothing rules text byte receiver = Brings rules text byte receiver [] []
Tells received.Block rules text byte receiver = Brings rules text byte receiver (block_of receiver ∷ []) []
Tells (received.Fence asked) rules text byte receiver = Brings rules text byte receiver [] (asked ∷ [])
Tells (received.Fault fault) rules text byte receiver = station_met rules.bytes (text ++ byte ∷ []) ≡ Some fault
