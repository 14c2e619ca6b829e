-- The head and the prints so far.
use Rattle.std.proofs.Common.{◌≡◌, ◌∷◌, ◌++◌, flat_map}
use Rattle.std.specs.Int.{w16, to_be_bytes}
use Rattle.std.specs.List.{range_with_len}
use Rattle.hk_spec_streams.specs.Station.{DATA}
use Rattle.hk_made.proofs.Played.{print_text}
use Rattle.hk_made.proofs.packets.data_packet.Given as goal

abbrev pub invariant-loop-i : goal.invariant-loop-i
invariant-loop-i l = l.packet.items ≡ (DATA ∷ to_be_bytes w16 4800) ++ flat_map (print_text l.flips l.song l.from l.draws) (range_with_len 0 l.i)
