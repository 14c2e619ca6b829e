use Rattle.std.proofs.Common.{◌≡◌, ◌≤◌, ◌++◌, length, take, ℕ, List}
use Rattle.hk_player.specs.Playing.{Adds}
use Rattle.hk_player.proofs.piece.play_piece.Given as goal

-- the front of the piece was played, at least one byte a turn
abbrev pub invariant-loop-turn : goal.invariant-loop-turn
invariant-loop-turn g l = record {
  task_stays : g.P.Player.task l.player ≡ g.P.Player.task l.fn.player;
  inside : l.at ≤ length l.piece;
  further : l._turn ≤ l.at;
  played : (refused text : List ℕ) → g.P.Player.has_played l.fn.player refused text
      → (refused' : List ℕ) × g.P.Player.has_played l.player refused' (text ++ take l.at l.piece)
      × Adds (g.P.Player.task l.fn.player) refused text refused' (text ++ take l.at l.piece) (g.K.Sink.written l.fn.out) (g.K.Sink.written l.out);
  no_write_failed : g.K.Sink.faults l.out ≡ g.K.Sink.faults l.fn.out;
}
