use Rattle.std.proofs.Common.{take}
use Rattle.hk_base.specs.Writing.{HasWritten}
use Rattle.hk_report.specs.Pieces.{further_items}
use Rattle.hk_report.proofs.line.write_further.Given as goal

abbrev pub invariant-loop-item : goal.invariant-loop-item
invariant-loop-item g l = record {
  written : HasWritten g.K.Sink (further_items (take l.item-index l.items)) l.fn.sink l.sink;
}
