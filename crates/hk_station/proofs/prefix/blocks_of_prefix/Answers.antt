use Rattle.std.proofs.Common.{refl, arith}
use Rattle.hk_station_wire.proofs.Growth.{front_has_front}
use Rattle.hk_station.proofs.prefix.blocks_of_prefix.Goals as goal

pub returns : goal.returns
returns c = λ limit. front_has_front _ refl (omega arith) limit c.args.n c.args.bytes.now
