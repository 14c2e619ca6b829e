use Rattle.hk_seating.proofs.Numbers.{seated_did}
use Rattle.hk_seating.proofs.laws.what_stations_did.Goals as goal

pub returns : goal.returns
returns g c = seated_did g.K.Link g.S.Sink g.G.Gate.faults
