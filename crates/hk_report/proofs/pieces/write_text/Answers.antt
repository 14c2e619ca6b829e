use Rattle.std.proofs.Common.{arith, length-drop, subst}
use Rattle.hk_base.specs.Writing.{HasWritten}
use Rattle.hk_base.proofs.Writing.{written-append}
use Rattle.hk_report.proofs.Fronts.{front_grows}
use Rattle.hk_report.proofs.pieces.write_text.Goals as goal

-- the front that was written so far, and what this write added
pub loop-done-preserved : goal.loop-done-preserved
loop-done-preserved g c = record {
  within = grind (arith, length-drop);
  written =
      let added : HasWritten g.K.Sink _ _ c.write.new.self = record { appended = c.in-Ok.ensures.appended; stays = c.in-Ok.ensures.counts_failures } in
      subst (λ text. HasWritten g.K.Sink text c.args.sink.now c.write.new.self) (front_grows c.args.text.now c.loop-done.done c.in-Ok.n) (written-append c.loop-done.invariant.written added);
}
