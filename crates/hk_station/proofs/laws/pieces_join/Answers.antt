use Rattle.hk_station.proofs.SinceStart.{pieces_join, torn_joins}
use Rattle.hk_station.proofs.laws.pieces_join.Goals as goal

pub returns-clause-heard : goal.returns-clause-heard
returns-clause-heard g c = pieces_join

pub returns-clause-torn : goal.returns-clause-torn
returns-clause-torn g c = torn_joins
