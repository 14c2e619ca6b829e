use Rattle.std.proofs.Common.{◌∙◌, ap, sym, arith}
use Rattle.hk_wire.specs.Held.{is_over}
use Rattle.hk_station_wire.specs.LastPacket.{last_packet}
use Rattle.hk_station_wire.proofs.reader.Reader.is_at_start.Goals as goal
use Rattle.hk_station_wire.proofs.GrowingSegments.{starts}

pub returns-then-place-ge-HELLO_SIZE : goal.returns-then-place-ge-HELLO_SIZE
returns-then-place-ge-HELLO_SIZE c text place stands =
    c.is_over.ensures _ stands.packet ∙ ap (λ size. is_over size (last_packet text)) c.args.self.now.short_lengths ∙ sym (starts text (omega arith))
