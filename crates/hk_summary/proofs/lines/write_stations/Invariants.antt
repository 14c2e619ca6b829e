use Rattle.std.proofs.Common.{take}
use Rattle.hk_base.specs.Writing.{HasWritten}
use Rattle.hk_summary.specs.Ends.{station_lines}
use Rattle.hk_summary.proofs.lines.write_stations.Given as goal

abbrev pub invariant-loop-station : goal.invariant-loop-station
invariant-loop-station g l = record {
  written : HasWritten g.K.Sink (station_lines (take l.station-index l.stations)) l.fn.out l.out;
}
