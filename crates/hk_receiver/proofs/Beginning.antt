-- Before the first byte.
use Rattle.std.proofs.Common.{◌≡◌, ℕ, ◌<◌, [], ◌∷◌, length, refl, sym, ◌∙◌, ap, arith, false, None, cond}
use Rattle.std.specs.Prelude.{◌&&◌, ◌==◌, nat_lt, slice_index}
use Rattle.hk_spec_sound.specs.Prints.{full_analysis}
use Rattle.hk_spec_streams.specs.Pieces.{first_met}
use Rattle.hk_spec_streams.specs.Station.{station_fault}
use Rattle.hk_station_wire.specs.LastPacket.{gap_is_open}
use Rattle.hk_spec_streams.specs.Blocks.{Setting, blocks}
use Rattle.hk_station_wire.proofs.LastItems.{hello_packet, hello_segments}
use Rattle.hk_receiver.specs.declared.segment.Segment.{Segment}
use Rattle.hk_receiver.specs.Segment.{HasBytes}
use Rattle.hk_receiver.specs.Kept.{HasSegments}
use Rattle.hk_receiver.proofs.Blocks.{none_yet}

pub no_fault_yet : (limit : ℕ) → station_fault limit [] ≡ None
unfolding first_met
no_fault_yet limit = refl

no_gap : gap_is_open [] ≡ false
no_gap = ap (λ packet. (slice_index packet 0 == 3) && nat_lt (length packet) 3) (hello_packet [] (omega arith))

pub holds_nothing : (s : Setting) (segment : Segment) → segment.number ≡ 0 → HasBytes s (record { channels = 0; factor = 1 }) segment [] → HasSegments s segment []
holds_nothing s segment first has = record {
  before = [];
  bytes = [];
  are = hello_segments [] (omega arith) ∙ ap (λ g. [] ∷ cond g ([] ∷ []) []) (sym no_gap);
  number = first;
  has = has;
}

pub no_blocks_yet : (s : Setting) → s.analysis ≡ full_analysis → 0 < s.block.size → blocks s [] ≡ []
no_blocks_yet s full some = none_yet s full some [] (hello_segments [] (omega arith))
