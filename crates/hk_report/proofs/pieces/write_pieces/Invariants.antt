use Rattle.std.proofs.Common.{take}
use Rattle.hk_base.specs.Writing.{HasWritten}
use Rattle.hk_report.specs.Pieces.{pieces_text}
use Rattle.hk_report.proofs.pieces.write_pieces.Given as goal

abbrev pub invariant-loop-piece : goal.invariant-loop-piece
invariant-loop-piece g l = record {
  written : HasWritten g.K.Sink (pieces_text (take l.piece-index l.pieces)) l.fn.sink l.sink;
}
