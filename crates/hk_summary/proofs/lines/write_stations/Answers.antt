use Rattle.hk_base.proofs.Writing.{torn_at}
use Rattle.hk_summary.specs.Ends.{end_line}
use Rattle.hk_summary.proofs.lines.write_stations.Goals as goal

-- the lines so far, and a front of this one
pub returns-in-Err : goal.returns-in-Err
returns-in-Err g c = record { whole = tt; torn = torn_at end_line _ _ _ c.loop-station-test.true c.loop-station.invariant.written c.in-Err.ensures.torn }
