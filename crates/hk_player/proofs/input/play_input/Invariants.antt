use Rattle.std.proofs.Common.{◌≡◌, ◌≤◌, length}
use Rattle.hk_player.specs.Endings.{Between}
use Rattle.hk_player.specs.Pieces.{WasPlayed}
use Rattle.hk_player.proofs.input.play_input.Given as goal

-- the bytes that were read were played, at least one a turn
abbrev pub invariant-loop-turn : goal.invariant-loop-turn
invariant-loop-turn g l = record {
  task_stays : g.P.Player.task l.player ≡ g.P.Player.task l.fn.player;
  played : Between g.S.Source g.K.Sink l.fn.input l.input l.fn.out l.out
      (λ b o. WasPlayed (g.P.Player.has_played l.player) (g.P.Player.task l.fn.player) b o × (l._turn ≤ length b));
  no_read_failed : g.S.Source.faults l.input ≡ g.S.Source.faults l.fn.input;
  no_write_failed : g.K.Sink.faults l.out ≡ g.K.Sink.faults l.fn.out;
}
