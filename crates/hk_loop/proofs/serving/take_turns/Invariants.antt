use Rattle.std.proofs.Common.{◌≡◌, length}
use Rattle.hk_loop.specs.Serving.{Keeps}
use Rattle.hk_loop.specs.Rows.{Each}
use Rattle.hk_loop.proofs.serving.take_turns.Given as goal

-- what was promised of each seat is promised still
abbrev pub invariant-loop-k : goal.invariant-loop-k
invariant-loop-k g l = record {
  keeps : Each (Keeps g.K.Link g.S.Sink g.V.Looker) l.fn.seats.items l.seats.items;
  piece : length l.piece ≡ length l.fn.piece;
  room : l.scratch.room ≡ l.fn.scratch.room;
}
