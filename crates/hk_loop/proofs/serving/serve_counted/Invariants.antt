use Rattle.std.proofs.Common.{◌≡◌}
use Rattle.hk_loop.specs.Serving.{Keeps}
use Rattle.hk_loop.specs.Rows.{Each}
use Rattle.hk_loop.proofs.serving.serve_counted.Given as goal

-- what was promised of each seat is promised still, and the gate hasn't failed
abbrev pub invariant-loop : goal.invariant-loop
invariant-loop g l = record {
  keeps : Each (Keeps g.G.Link.Link g.S.Sink g.V.Looker) l.fn.seats.items l.seats.items;
  room : l.scratch.room ≡ l.fn.scratch.room;
  count : g.G.Gate.faults l.gate ≡ g.G.Gate.faults l.fn.gate;
}
