use Rattle.hk_base.proofs.Writing.{torn_at}
use Rattle.hk_report.proofs.pieces.write_texts.Goals as goal

-- the texts so far, and a front of this one
pub returns-in-Err : goal.returns-in-Err
returns-in-Err g c = record { whole = tt; torn = torn_at (λ part. part.now) _ _ _ c.loop-part-test.true c.loop-part.invariant.written c.in-Err.ensures.torn }
