use Rattle.std.proofs.Common.{◌∙◌, ap}
use Rattle.hk_opening.proofs.Unused.{WasClosed, stations_outside, gates_outside, unused, all_back, has_all}
use Rattle.hk_opening.proofs.opening.open.Given.{Over}
use Rattle.hk_opening.proofs.opening.open.Goals as goal

pub return_gates-requires-clause-out : goal.return_gates-requires-clause-out
return_gates-requires-clause-out g c κs within w less =
    gates_outside g.D.Gate.Gate.faults c.open_all.new.gates.items _ _ c.open_all.ensures.gates w less

pub return_stations-requires-clause-out : goal.return_stations-requires-clause-out
return_stations-requires-clause-out g c κs within n less =
    ap (λ p. p.held) (c.return_gates.ensures.stations n) ∙ stations_outside g.D.Link.Link g.D.Log.Sink c.open_all.new.stations.items _ _ c.open_all.ensures.stations n less

closed : (g : Over) (c : goal.After-return_stations g)
    → WasClosed g.D.Link.Link g.D.Log.Sink g.D.Gate.Gate.faults c.open_all.new.stations.items c.open_all.new.gates.items
    (g.D.Door.doorway c.args.door.now) (g.D.Door.doorway c.start.new.self) (g.D.Door.doorway c.open_all.new.door)
    (g.D.Door.doorway c.return_gates.new.door) (g.D.Door.doorway c.return_stations.new.door)
closed g c = record {
  begun = c.in_ok-start.ensures.ok.objects;
  stations_out = c.open_all.ensures.stations;
  gates_out = c.open_all.ensures.gates;
  operator = c.in-Err.ensures.unused;
  gates_back = c.return_gates.ensures.back;
  stations_stay = c.return_gates.ensures.stations;
  operator_stays = c.return_gates.ensures.operator;
  stations_back = c.return_stations.ensures.back;
  gates_stay = c.return_stations.ensures.gates;
  operator_is = c.return_stations.ensures.operator;
}

pub returns-in-Err-clause-unused : goal.returns-in-Err-clause-unused
returns-in-Err-clause-unused g c = unused g.D.Link.Link g.D.Log.Sink g.D.Gate.Gate.faults _ _ _ _ _ _ _ (closed g c)

pub returns-in-Err-clause-all_back : goal.returns-in-Err-clause-all_back
returns-in-Err-clause-all_back g c =
    all_back g.D.Link.Link g.D.Log.Sink g.D.Gate.Gate.faults _ _ _ _ _ _ _ (closed g c) c.in-Err.ensures.only (c.return_stations.ensures.same.calls ∙ c.return_gates.ensures.same.calls)

pub returns-in-Err-clause-back : goal.returns-in-Err-clause-back
returns-in-Err-clause-back g c = has_all g.D.Link.Link g.D.Log.Sink g.D.Gate.Gate.faults _ _ _ _ _ _ _ (closed g c)
