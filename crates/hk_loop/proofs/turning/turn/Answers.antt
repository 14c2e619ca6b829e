use Rattle.std.proofs.Common.{◌≡◌, refl, sym, ◌∙◌, subst}
use Rattle.hk_base.specs.Devices.{Rose, IsNothing}
use Rattle.hk_loop.specs.Serving.{AtItsEnd, ByItsLink}
use Rattle.hk_loop.proofs.Turns.{keeps_fed, keeps_idle, ended}
use Rattle.hk_loop.proofs.turning.turn.Goals as goal

pub returns-in-Bytes-clause-keeps : goal.returns-in-Bytes-clause-keeps
returns-in-Bytes-clause-keeps g c =
    let e = c.feed-progress.ensures in
    keeps_fed _ _ _ _ _ c.feed-progress.result e.tells c.requires.going c.in-Bytes.ensures.next c.in-Bytes.ensures.counts_failures e.heard (e.torn c.requires.going)

pub returns-in-End-clause-keeps : goal.returns-in-End-clause-keeps
returns-in-End-clause-keeps g c =
    let read = c.in-End.ensures in
    let e = c.finish.ensures in
    record {
      room = refl;
      serves = λ first gate gate' serves.
          ended c.args.seat.now c.read.new.self c.finish.new.self c.finish.result first gate gate' c.requires.going read.stays e.number_stays e.lines_stay e.version_stays e.kept
          (λ same. AtItsEnd c.requires.going (subst IsNothing (sym read.stays) read.end) e.end (read.counts_failures ∙ same)) serves;
    }

pub returns-in-NotYet-clause-keeps : goal.returns-in-NotYet-clause-keeps
returns-in-NotYet-clause-keeps g c = keeps_idle c.args.seat.now c.read.new.self c.requires.going c.in-NotYet.ensures.stays c.in-NotYet.ensures.counts_failures

pub returns-in-Failed-clause-keeps : goal.returns-in-Failed-clause-keeps
returns-in-Failed-clause-keeps g c =
    let read = c.in-Failed.ensures in
    let e = c.stop_read.ensures in
    record {
      room = refl;
      serves = λ first gate gate' serves.
          ended c.args.seat.now c.read.new.self c.stop_read.new.self c.stop_read.result first gate gate' c.requires.going read.stays e.number_stays e.lines_stay e.version_stays e.kept
          (λ same. ByItsLink c.requires.going (e.going c.requires.going) (subst (λ n. Rose n (g.K.Link.faults c.read.new.self)) same read.cause)) serves;
    }
