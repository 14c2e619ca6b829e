use Rattle.std.proofs.Common.{◌≡◌, take, drop}
use Rattle.hk_base.specs.Writing.{HasWritten}
use Rattle.hk_run.specs.Holding.{ForListeners}
use Rattle.hk_run.specs.Course.{station_lines, all_ended}
use Rattle.hk_run.proofs.summary.write_stations.Given as goal

-- the lines of the first stations were written, and the others are as they were
abbrev pub invariant-loop-station : goal.invariant-loop-station
invariant-loop-station g l = record {
  lines : ForListeners l.fn.stations (λ rules listeners. HasWritten g.K.Sink (station_lines rules (take l.station-index listeners)) l.fn.out l.out);
  ended : ForListeners l.fn.stations (λ rules listeners. l.all_ended ≡ all_ended rules (take l.station-index listeners));
  others : drop l.station-index l.stations ≡ drop l.station-index l.fn.stations;
  no_write_failed : g.K.Sink.faults l.out ≡ g.K.Sink.faults l.fn.out;
}
