use Rattle.hk_base.proofs.Writing.{torn_at}
use Rattle.hk_report.specs.Pieces.{piece_text}
use Rattle.hk_report.proofs.pieces.write_pieces.Goals as goal

-- the pieces so far, and a front of this one
pub returns-in-Err : goal.returns-in-Err
returns-in-Err g c = record { whole = tt; torn = torn_at piece_text _ _ _ c.loop-piece-test.true c.loop-piece.invariant.written c.in-Err.ensures.torn }
