use Rattle.hk_base.proofs.Writing.{whole_then}
use Rattle.hk_summary.proofs.lines.write_rest.Goals as goal

pub returns-in-Some : goal.returns-in-Some
returns-in-Some g c = rw c.in-Some.is (whole_then c.in-Ok.ensures c.write_mismatch.ensures)
