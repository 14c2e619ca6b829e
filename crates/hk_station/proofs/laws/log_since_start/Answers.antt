use Rattle.hk_station.proofs.SinceStart.{log_since_start, torn_since_start}
use Rattle.hk_station.proofs.laws.log_since_start.Goals as goal

pub returns-clause-heard : goal.returns-clause-heard
returns-clause-heard g c = log_since_start

pub returns-clause-torn : goal.returns-clause-torn
returns-clause-torn g c = torn_since_start
