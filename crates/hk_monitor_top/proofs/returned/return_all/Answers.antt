use Rattle.std.proofs.Common.{◌∙◌}
use Rattle.hk_monitor_top.proofs.Returning.{stations_stay, gates_stay}
use Rattle.hk_monitor_top.proofs.returned.return_all.Goals as goal

pub returns-clause-stations : goal.returns-clause-stations
returns-clause-stations g c =
    stations_stay g.D.Link.Link g.D.Log.Sink c.args.pairs.now.items _ _ _ c.return_stations.ensures.back
    (λ n. c.return_operator.ensures.back.others.stations n (λ same. cc) ∙ c.return_gates.ensures.stations n)

pub returns-clause-gates : goal.returns-clause-gates
returns-clause-gates g c =
    gates_stay g.D.Gate.Gate.faults c.args.gates.now.items _ _ _ _ c.return_stations.ensures.gates c.return_gates.ensures.back
    (λ w. c.return_operator.ensures.back.others.gates w (λ same. cc))
