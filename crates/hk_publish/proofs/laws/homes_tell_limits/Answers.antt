use Rattle.hk_publish.proofs.Telling.{homes_tell}
use Rattle.hk_publish.proofs.laws.homes_tell_limits.Goals as goal

pub returns-clause-readings : goal.returns-clause-readings
returns-clause-readings c a b same = homes_tell a.limits b.limits a.home b.home (cc same)

pub returns-clause-desk : goal.returns-clause-desk
returns-clause-desk c desk reading same = homes_tell desk.limits reading.limits desk.home reading.home (cc same)
