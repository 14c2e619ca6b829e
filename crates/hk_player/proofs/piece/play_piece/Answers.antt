use Rattle.std.proofs.Common.{◌<◌, ◌+◌, ◌++◌, length, take, refl, sym, ◌∙◌, subst, append-nil, List, ℕ, Option, arith}
use Rattle.hk_spec_runs.specs.Outcome.{Task}
use Rattle.hk_player.specs.Pieces.{StopsAt}
use Rattle.hk_player.proofs.Steps.{Adds-nothing, further, listened_on, stops_in, tears_in, goes_in}
use Rattle.hk_player.proofs.piece.play_piece.Goals as goal

pub loop-turn-init : goal.loop-turn-init
loop-turn-init g c = record {
  task_stays = refl;
  inside = omega arith;
  further = omega arith;
  played = λ refused text h. (
    refused,
    subst (g.P.Player.has_played c.args.player.now refused) (sym (append-nil text)) h,
    Adds-nothing (g.P.Player.task c.args.player.now) refused text (g.K.Sink.written c.args.out.now),
  );
  no_write_failed = refl;
}

pub returns-in-Stopped-clause-stopped : goal.returns-in-Stopped-clause-stopped
returns-in-Stopped-clause-stopped g c = λ refused text h.
    let task : Task = g.P.Player.task c.args.player.now in
    let piece : List ℕ = c.args.piece.now in
    let at : ℕ = c.loop-turn.at in
    let before : Option (List ℕ) = g.K.Sink.written c.args.out.now in
    let was : Option (List ℕ) = g.K.Sink.written c.loop-turn.out in
    let played = c.loop-turn.invariant.played refused text h in
    let mid = listened_on task (g.P.Player.task c.loop-turn.player) (g.P.Player.has_played c.listen-at.new.self) refused text played.0 piece at c.listen-at.result before was
    c.loop-turn.invariant.task_stays (omega arith) played.2 (c.listen-at.ensures.listened played.0 (text ++ take at piece) played.1) in
    let stops = stops_in task (g.P.Player.task c.listen-at.new.self) (c.listen-at.ensures.task_stays ∙ c.loop-turn.invariant.task_stays) refused text played.0 piece
    (at + c.listen-at.result) (omega arith) before was mid.1 c.in-Stopped.trouble
    (c.in-Stopped.ensures.stopped played.0 (text ++ take (at + c.listen-at.result) piece) mid.0) in
    subst (λ (y : Option (List ℕ)). StopsAt task refused text (text ++ piece) c.in-Stopped.trouble before y) (sym c.in-Stopped.ensures.stopped_unwritten) stops

pub returns-in-SinkFault-clause-torn : goal.returns-in-SinkFault-clause-torn
returns-in-SinkFault-clause-torn g c = λ is refused text h.
    let task : Task = g.P.Player.task c.args.player.now in
    let piece : List ℕ = c.args.piece.now in
    let at : ℕ = c.loop-turn.at in
    let before : Option (List ℕ) = g.K.Sink.written c.args.out.now in
    let was : Option (List ℕ) = g.K.Sink.written c.loop-turn.out in
    let played = c.loop-turn.invariant.played refused text h in
    let mid = listened_on task (g.P.Player.task c.loop-turn.player) (g.P.Player.has_played c.listen-at.new.self) refused text played.0 piece at c.listen-at.result before was
    c.loop-turn.invariant.task_stays (omega arith) played.2 (c.listen-at.ensures.listened played.0 (text ++ take at piece) played.1) in
    tears_in task (g.P.Player.task c.listen-at.new.self) (c.listen-at.ensures.task_stays ∙ c.loop-turn.invariant.task_stays) refused text played.0 piece
    (at + c.listen-at.result) (omega arith) before was mid.1 (g.K.Sink.written c.take.new.out)
    (c.in-SinkFault.ensures.torn refl played.0 (text ++ take (at + c.listen-at.result) piece) mid.0)

pub loop-turn-preserved : goal.loop-turn-preserved
loop-turn-preserved g c = record {
  task_stays = c.take.ensures.task_stays ∙ c.listen-at.ensures.task_stays ∙ c.loop-turn.invariant.task_stays;
  inside = omega arith;
  further = omega (arith, c.loop-turn.invariant.further);
  played = λ refused text h.
      let task : Task = g.P.Player.task c.args.player.now in
      let piece : List ℕ = c.args.piece.now in
      let at : ℕ = c.loop-turn.at in
      let before : Option (List ℕ) = g.K.Sink.written c.args.out.now in
      let was : Option (List ℕ) = g.K.Sink.written c.loop-turn.out in
      let played = c.loop-turn.invariant.played refused text h in
      let mid = listened_on task (g.P.Player.task c.loop-turn.player) (g.P.Player.has_played c.listen-at.new.self) refused text played.0 piece at c.listen-at.result before was
      c.loop-turn.invariant.task_stays (omega arith) played.2 (c.listen-at.ensures.listened played.0 (text ++ take at piece) played.1) in
      let i : ℕ = at + c.listen-at.result in
      let inside : i < length piece = omega arith in
      let went = c.in-Going.ensures.going refl played.0 (text ++ take i piece) mid.0 in (
        went.0,
        subst (λ (t : List ℕ). g.P.Player.has_played c.take.new.self went.0 t) (sym (further text piece i inside)) went.1,
        goes_in task (g.P.Player.task c.listen-at.new.self) (c.listen-at.ensures.task_stays ∙ c.loop-turn.invariant.task_stays) refused text played.0 piece
            i inside before was mid.1 went.0 (g.K.Sink.written c.take.new.out) went.2,
      );
  no_write_failed = c.in-Going.ensures.faults.stays (λ no. cc) ∙ c.loop-turn.invariant.no_write_failed;
}
