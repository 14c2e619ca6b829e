use Rattle.std.proofs.Common.{[], subst, refl, ◌∙◌, arith}
use Rattle.hk_base.specs.Devices.{Rose, Wrote, WroteFront}
use Rattle.hk_base.proofs.Writing.{rose_never_falls}
use Rattle.hk_spec_lines.specs.Lines.{trouble_line}
use Rattle.hk_player.proofs.Endings.{finished_whole, finished_torn, wrong_told, wrong_torn, unread_told, unread_torn, left_told, left_torn, torn_end}
use Rattle.hk_player.proofs.ending.play.Goals as goal

pub returns-in-Whole : goal.returns-in-Whole
returns-in-Whole g c =
    let end = c.in-End.ensures.end refl in
    let h = end.1.4.1 in
    record {
      does = (
        finished_whole _ _ c.in-End.ensures.task_stays _ _ _ _ _ _ end.1 (g.met.P.Player.in_form _ _ _ h) c.in-Whole.in_order end.0 (c.in-Whole.ensures.whole _ _ h),
        c.in-End.ensures.reads.stays (λ no. cc),
        c.in-Whole.ensures.faults.stays (λ no. cc) ∙ c.in-End.ensures.writes.stays (λ no. cc),
      );
    }

pub returns-in-Torn : goal.returns-in-Torn
returns-in-Torn g c =
    let end = c.in-End.ensures.end refl in
    let h = end.1.4.1 in
    let stays = c.in-End.ensures.reads.stays (λ no. cc) in
    record {
      does = (
        finished_torn _ _ c.in-End.ensures.task_stays _ _ _ _ _ _ end.1 (g.met.P.Player.in_form _ _ _ h) _ end.0 (c.in-Torn.ensures.torn refl _ _ h),
        omega (arith, stays),
        subst (λ n. Rose n (g.K.Sink.faults c.finish.new.out)) (c.in-End.ensures.writes.stays (λ no. cc)) (c.in-Torn.ensures.faults.cause refl),
      );
    }

pub returns-in-Ok : goal.returns-in-Ok
returns-in-Ok g c =
    let end = c.in-End.ensures.end refl in
    let h = end.1.4.1 in
    let line = subst (λ v. Wrote (trouble_line c.in-Wrong.trouble) v (g.K.Sink.written c.write_trouble.new.sink)) c.in-Wrong.ensures.wrong_unwritten c.in-Ok.ensures.whole.appended in
    record {
      does = (
        wrong_told _ _ c.in-End.ensures.task_stays _ _ _ _ _ _ end.1 (g.met.P.Player.in_form _ _ _ h) c.in-Wrong.trouble end.0 (c.in-Wrong.ensures.wrong _ _ h) line,
        c.in-End.ensures.reads.stays (λ no. cc),
        c.in-Ok.ensures.whole.stays ∙ c.in-Wrong.ensures.faults.stays (λ no. cc) ∙ c.in-End.ensures.writes.stays (λ no. cc),
      );
    }

pub returns-in-Err : goal.returns-in-Err
returns-in-Err g c =
    let end = c.in-End.ensures.end refl in
    let h = end.1.4.1 in
    let front = subst (λ v. WroteFront (trouble_line c.in-Wrong.trouble) v (g.K.Sink.written c.write_trouble.new.sink)) c.in-Wrong.ensures.wrong_unwritten c.in-Err.ensures.torn.front in
    let stays = c.in-End.ensures.reads.stays (λ no. cc) in
    record {
      does = (
        wrong_torn _ _ c.in-End.ensures.task_stays _ _ _ _ _ _ end.1 (g.met.P.Player.in_form _ _ _ h) c.in-Wrong.trouble _ end.0 (c.in-Wrong.ensures.wrong _ _ h) front,
        omega (arith, stays),
        subst (λ n. Rose n (g.K.Sink.faults c.write_trouble.new.sink)) (c.in-Wrong.ensures.faults.stays (λ no. cc) ∙ c.in-End.ensures.writes.stays (λ no. cc)) c.in-Err.ensures.torn.cause,
      );
    }

pub returns-in-Ok-write_trouble : goal.returns-in-Ok-write_trouble
returns-in-Ok-write_trouble g c =
    let reads = (g.met.P.Player.in_form c.args.player.now [] [] c.requires.new).reads in
    record {
      does = (
        left_told _ reads _ _ _ _ _ c.in-Stopped.trouble c.in-Stopped.ensures.stopped c.in-Ok-write_trouble.ensures.whole.appended,
        c.in-Stopped.ensures.reads.stays (λ no. cc),
        c.in-Ok-write_trouble.ensures.whole.stays ∙ c.in-Stopped.ensures.writes.stays (λ no. cc),
      );
    }

pub returns-in-Err-write_trouble : goal.returns-in-Err-write_trouble
returns-in-Err-write_trouble g c =
    let reads = (g.met.P.Player.in_form c.args.player.now [] [] c.requires.new).reads in
    let stays = c.in-Stopped.ensures.reads.stays (λ no. cc) in
    record {
      does = (
        left_torn _ reads _ _ _ _ _ c.in-Stopped.trouble _ c.in-Stopped.ensures.stopped c.in-Err-write_trouble.ensures.torn.front,
        omega (arith, stays),
        subst (λ n. Rose n (g.K.Sink.faults c.write_trouble-in-Stopped.new.sink)) (c.in-Stopped.ensures.writes.stays (λ no. cc)) c.in-Err-write_trouble.ensures.torn.cause,
      );
    }

pub returns-in-Ok-write_trouble-2 : goal.returns-in-Ok-write_trouble-2
returns-in-Ok-write_trouble-2 g c =
    let played = c.in-ReadFault.ensures.read_fault refl in
    let form = g.met.P.Player.in_form _ _ _ played.4.1 in
    record {
      does = (
        unread_told _ _ c.in-ReadFault.ensures.task_stays _ _ _ _ _ _ played form c.in-Ok-write_trouble-2.ensures.whole.appended,
        c.in-ReadFault.ensures.reads.cause refl,
        c.in-Ok-write_trouble-2.ensures.whole.stays ∙ c.in-ReadFault.ensures.writes.stays (λ no. cc),
      );
    }

pub returns-in-Err-write_trouble-2 : goal.returns-in-Err-write_trouble-2
returns-in-Err-write_trouble-2 g c =
    let played = c.in-ReadFault.ensures.read_fault refl in
    let form = g.met.P.Player.in_form _ _ _ played.4.1 in
    let failed = c.in-ReadFault.ensures.reads.cause refl in
    record {
      does = (
        unread_torn _ _ c.in-ReadFault.ensures.task_stays _ _ _ _ _ _ played form _ failed c.in-Err-write_trouble-2.ensures.torn.front,
        rose_never_falls _ _ failed,
        subst (λ n. Rose n (g.K.Sink.faults c.write_trouble-in-ReadFault.new.sink)) (c.in-ReadFault.ensures.writes.stays (λ no. cc)) c.in-Err-write_trouble-2.ensures.torn.cause,
      );
    }

pub returns-in-SinkFault : goal.returns-in-SinkFault
returns-in-SinkFault g c =
    let reads = (g.met.P.Player.in_form c.args.player.now [] [] c.requires.new).reads in
    let stays = c.in-SinkFault.ensures.reads.stays (λ no. cc) in
    record {
      does = (
        torn_end _ reads _ _ _ _ _ (c.in-SinkFault.ensures.torn refl),
        omega (arith, stays),
        c.in-SinkFault.ensures.writes.cause refl,
      );
    }
