use Rattle.std.proofs.Common.{◌∙◌, List, ◌∷◌, ◌++◌, map, length, ap, sym, subst}
use Rattle.std.specs.List.{range_with_len}
use Rattle.hk_outside.specs.declared.door.Ask.TheVariants as asks
use Rattle.hk_outside.specs.declared.door.Call.{Call}
use Rattle.hk_spec_monitor.specs.Devices.{granted}
use Rattle.hk_opening.specs.Handing.{OnlyTheseAreOut}
use Rattle.hk_opening.proofs.Back.{on_err, only_stations}
use Rattle.hk_opening.proofs.Order.{asked_behind, refused_before}
use Rattle.hk_opening.proofs.opening.open_all.Goals as goal

pub returns-in-Ok-clause-asked : goal.returns-in-Ok-clause-asked
returns-in-Ok-clause-asked g c =
    asked_behind (map asks.Station (range_with_len 0 c.args.plan.now.stations)) (asks.Operator ∷ map asks.Gate (range_with_len 0 c.args.plan.now.workers)) c.open_rest.result
    _ _ _ c.in-Ok.ensures.asked c.open_rest.ensures.asked

pub returns-in-Err-clause-asked : goal.returns-in-Err-clause-asked
returns-in-Err-clause-asked g c =
    refused_before (map asks.Station (range_with_len 0 c.args.plan.now.stations)) (asks.Operator ∷ map asks.Gate (range_with_len 0 c.args.plan.now.workers)) _ _ c.in-Err.ensures.asked

pub returns-in-Ok-clause-only : goal.returns-in-Ok-clause-only
returns-in-Ok-clause-only g c = on_err c.open_rest.result c.open_rest.ensures.only (λ only.
    subst (λ n. OnlyTheseAreOut n (length c.open_rest.new.gates.items) (g.D.Door.doorway c.open_rest.new.door)) (sym c.in-Ok.ensures.all)
    (only c.args.plan.now.stations (c.in-Ok.ensures.asked ∙ ap (λ (cs : List Call). cs ++ granted (map asks.Station (range_with_len 0 c.args.plan.now.stations))) c.requires.first)))

pub returns-in-Err-clause-only : goal.returns-in-Err-clause-only
returns-in-Err-clause-only g c = only_stations (length c.open_stations.new.stations.items) (length c.args.gates.now.items) (g.D.Door.doorway c.open_stations.new.door) _ c.requires.first c.in-Err.ensures.last
