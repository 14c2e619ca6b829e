use Rattle.std.proofs.Common.{◌≡◌, ◌+◌, ◌++◌, length, sym, ◌∙◌, arith, length-append}
use Rattle.std.proofs.lemmas.List.{take-append-le}
use Rattle.hk_wire.proofs.packet.LastPacket.skip.Goals as goal

pub returns-clause-next : goal.returns-clause-next
returns-clause-next c = λ bytes more is some count.
    let long : length (bytes ++ more) ≡ length bytes + length more = length-append bytes more in
    record {
      first = is.first ∙ sym (take-append-le 12 bytes more some);
      count = omega (arith, is.count, count, long);
    }
