-- What is kept of the last packet.
use Rattle.std.specs.Prelude.{◌≡◌, ℕ, ◌==◌, Bool, ◌||◌, List, length, take, drop}
use Rattle.std.specs.Int.{Width, w16, w32, byte_len, from_be_bytes}
use Rattle.hk_wire.specs.declared.gathered.Gathered.{Gathered}
use Rattle.hk_wire.specs.declared.packet.LengthSize.{LengthSize}
use Rattle.hk_wire.specs.declared.packet.LengthSize.TheVariants.{Two, Four}
use Rattle.hk_wire.specs.declared.packet.LastPacket.{LastPacket}
use Rattle.hk_spec_streams.specs.Grammar.{packet_size}

abbrev pub gathered : Gathered → List ℕ
gathered g = take g.count g.bytes

-- the width of a packet's length
abbrev pub width_of : LengthSize → Width
width_of Two = w16
width_of Four = w32

abbrev pub length_size : LastPacket → LengthSize
length_size packet = packet.size

-- how many bytes of the packet came
abbrev pub count_of : LastPacket → ℕ
count_of packet = packet.count

-- the packet's length, where bytes that aren't there count as 0
abbrev pub length_in : LengthSize → List ℕ → ℕ
length_in size bytes = from_be_bytes (width_of size) (take (byte_len (width_of size)) (drop 1 bytes))

-- no packet, or a whole one: the next byte begins a packet
abbrev pub is_over : LengthSize → List ℕ → Bool
is_over size bytes = (length bytes == 0) || (packet_size (width_of size) bytes == length bytes)

-- these are the bytes that came of the last packet
pub record IsLast (packet : LastPacket) (bytes : List ℕ) : Type 0 where
  pub first : gathered packet.first ≡ take 12 bytes
  pub count : packet.count ≡ length bytes
