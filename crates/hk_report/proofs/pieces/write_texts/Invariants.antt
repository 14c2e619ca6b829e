use Rattle.std.proofs.Common.{take}
use Rattle.hk_base.specs.Writing.{HasWritten}
use Rattle.hk_report.specs.Pieces.{texts}
use Rattle.hk_report.proofs.pieces.write_texts.Given as goal

abbrev pub invariant-loop-part : goal.invariant-loop-part
invariant-loop-part g l = record {
  written : HasWritten g.K.Sink (texts (take l.part-index l.parts)) l.fn.sink l.sink;
}
