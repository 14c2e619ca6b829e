use Rattle.std.proofs.Common.{◌≡◌, All, None}
use Rattle.hk_station.specs.Hearing.{kept_end}
use Rattle.hk_loop.specs.Serving.{Keeps}
use Rattle.hk_loop.specs.Rows.{Each}
use Rattle.hk_loop.proofs.serving.watch_all.Given as goal

-- what was promised of each seat is promised still, and all go on
abbrev pub invariant-loop-k : goal.invariant-loop-k
invariant-loop-k g l = record {
  keeps : Each (Keeps g.G.Link.Link g.S.Sink g.V.Looker) l.fn.seats.items l.seats.items;
  going : All (λ seat. kept_end seat.station ≡ None) l.seats.items;
  count : g.G.Gate.faults l.gate ≡ g.G.Gate.faults l.fn.gate;
}
