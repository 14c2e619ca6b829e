use Rattle.std.proofs.Common.{◌≡◌, ◌≤◌, ◌+◌, ◌++◌, [], List, ℕ, length, take, refl, sym, ◌∙◌, subst, arith, length-append}
use Rattle.hk_base.proofs.Taking.{Took-nothing, Wrote-nothing}
use Rattle.hk_spec_runs.specs.Outcome.{Task}
use Rattle.hk_player.specs.Playing.{Adds}
use Rattle.hk_player.specs.Pieces.{StopsAt, IsTorn, WasPlayed}
use Rattle.hk_player.proofs.Steps.{played_piece, stopped_piece, torn_piece, some_read}
use Rattle.hk_player.proofs.input.play_input.Goals as goal

pub loop-turn-init : goal.loop-turn-init
loop-turn-init g c = record {
  task_stays = refl;
  played = ([], [], Took-nothing _, Wrote-nothing _, (([], c.requires.new, sym c.requires.nothing_printed), omega arith));
  no_read_failed = refl;
  no_write_failed = refl;
}

pub returns-in-SinkFault-clause-torn : goal.returns-in-SinkFault-clause-torn
returns-in-SinkFault-clause-torn g c = λ is.
    let task : Task = g.P.Player.task c.args.player.now in
    let so_far = c.loop-turn.invariant.played in
    let torn = c.in-SinkFault.ensures.torn refl so_far.4.0.0 so_far.0 so_far.4.0.1 in
    torn_piece task so_far.4.0.0 so_far.0 so_far.1 _ _ _ _ _ _ _ so_far.2 c.in-Bytes.ensures.next so_far.3 so_far.4.0.2
    (subst (λ (k : Task). IsTorn k so_far.4.0.0 so_far.0 (so_far.0 ++ take c.in-Bytes.count c.read.new.into) (g.K.Sink.written c.loop-turn.out) (g.K.Sink.written c.play_piece.new.out)) c.loop-turn.invariant.task_stays torn)

pub returns-in-Stopped-clause-stopped : goal.returns-in-Stopped-clause-stopped
returns-in-Stopped-clause-stopped g c =
    let task : Task = g.P.Player.task c.args.player.now in
    let so_far = c.loop-turn.invariant.played in
    let stops = c.in-Stopped.ensures.stopped so_far.4.0.0 so_far.0 so_far.4.0.1 in
    stopped_piece task so_far.4.0.0 so_far.0 so_far.1 _ _ _ _ _ _ _ so_far.2 c.in-Bytes.ensures.next so_far.3 so_far.4.0.2 c.in-Stopped.trouble
    (subst (λ (k : Task). StopsAt k so_far.4.0.0 so_far.0 (so_far.0 ++ take c.in-Bytes.count c.read.new.into) c.in-Stopped.trouble (g.K.Sink.written c.loop-turn.out) (g.K.Sink.written c.play_piece.new.out)) c.loop-turn.invariant.task_stays stops)

pub loop-turn-preserved : goal.loop-turn-preserved
loop-turn-preserved g c = record {
  task_stays = c.play_piece.ensures.task_stays ∙ c.loop-turn.invariant.task_stays;
  played =
      let task : Task = g.P.Player.task c.args.player.now in
      let so_far = c.loop-turn.invariant.played in
      let b : List ℕ = so_far.0 in
      let piece : List ℕ = take c.in-Bytes.count c.read.new.into in
      let all = c.in-All.ensures.all refl so_far.4.0.0 so_far.0 so_far.4.0.1 in
      let some : 1 ≤ length (take c.in-Bytes.count c.read.new.into) = some_read c.in-Bytes.count c.read.new.into c.in-Bytes.ensures.some (omega (arith, c.in-Bytes.ensures.room)) in
      let long : length (b ++ piece) ≡ length b + length piece = length-append b piece in
      played_piece task so_far.4.0.0 so_far.0 so_far.1 piece _ _ _ _ _ _ so_far.2 c.in-Bytes.ensures.next so_far.3 so_far.4.0.2 all.0
      (λ bs o. WasPlayed (g.P.Player.has_played c.play_piece.new.player) task bs o × (c.loop-turn._turn + 1 ≤ length bs))
      (subst (λ (k : Task). Adds k so_far.4.0.0 b all.0 (b ++ piece) (g.K.Sink.written c.loop-turn.out) (g.K.Sink.written c.play_piece.new.out)) c.loop-turn.invariant.task_stays all.2)
      (λ o is. ((all.0, all.1, is), omega (arith, so_far.4.1, some, long)));
  no_read_failed = c.in-Bytes.ensures.counts_failures ∙ c.loop-turn.invariant.no_read_failed;
  no_write_failed = c.in-All.ensures.faults.stays (λ no. cc) ∙ c.loop-turn.invariant.no_write_failed;
}

pub returns-in-End-clause-end : goal.returns-in-End-clause-end
returns-in-End-clause-end g c = λ is.
    let so_far = c.loop-turn.invariant.played in (
      rw c.in-End.ensures.nothing_taken c.in-End.ensures.end,
      (so_far.0, so_far.1, rw c.in-End.ensures.nothing_taken so_far.2, so_far.3, so_far.4.0),
    )

pub returns-in-Failed-clause-read_fault : goal.returns-in-Failed-clause-read_fault
returns-in-Failed-clause-read_fault g c = λ is.
    let so_far = c.loop-turn.invariant.played in
    (so_far.0, so_far.1, rw c.in-Failed.ensures.nothing_taken so_far.2, so_far.3, so_far.4.0)

pub returns-clause-end : goal.returns-clause-end
returns-clause-end g c = λ is.
    let so_far = c.loop-turn.invariant.played in
    let form = g.met.P.Player.in_form c.loop-turn.player so_far.4.0.0 so_far.0 so_far.4.0.1 in
    absurd (omega (arith, so_far.4.1, form.few, c.loop-turn-test.false))
