use Rattle.std.proofs.Common.{◌∙◌, [], arith}
use Rattle.hk_outside.specs.declared.door.Ask.TheVariants as asks
use Rattle.hk_opening.proofs.Order.{one_more, refused_next, until_next, next_station}
use Rattle.hk_opening.proofs.Out.{station_more, gates_stay}
use Rattle.hk_opening.proofs.asking.open_stations.Goals as goal

pub station-requires-clause-once : goal.station-requires-clause-once
station-requires-clause-once g c =
    next_station c.loop-number.number _ _ c.requires.first c.loop-number.invariant.asked

pub returns-in-Err-clause-asked : goal.returns-in-Err-clause-asked
returns-in-Err-clause-asked g c =
    refused_next asks.Station c.args.count c.loop-number.number _ _ _ c.loop-number-test.true c.loop-number.invariant.asked c.in-Err.ensures.refused.asked.calls

pub returns-in-Err-clause-last : goal.returns-in-Err-clause-last
returns-in-Err-clause-last g c =
    until_next asks.Station c.loop-number.number _ _ _ _ c.loop-number.invariant.count c.loop-number.invariant.asked c.in-Err.ensures.refused.asked.calls

pub loop-number-preserved : goal.loop-number-preserved
loop-number-preserved g c =
    let before = c.loop-number.invariant in
    let handed = c.in-Ok.ensures.ok in
    record {
      asked = one_more asks.Station c.loop-number.number _ _ _ before.asked handed.asked.calls;
      start = record { start = handed.asked.start ∙ before.start.start; plan = handed.asked.plan ∙ before.start.plan };
      out = rw c.push_reserved.ensures.items (station_more g.D.Link.Link g.D.Log.Sink c.loop-number.stations.items c.in-Ok.pair _ _ _ c.loop-number.number before.count before.out handed c.in-Ok.ensures.link c.in-Ok.ensures.log c.in-Ok.ensures.log_empty);
      count = omega (arith, c.push_reserved.ensures.len, before.count);
      room = omega (arith, c.push_reserved.ensures.capacity, before.room);
      operator = handed.others.operator (λ same. cc) ∙ before.operator;
      gates = gates_stay g.D.Gate.Gate.faults [] _ _ _ before.gates (λ w. handed.others.gates w (λ same. cc));
      counts_failures = c.in-Ok.ensures.counts_failures ∙ before.counts_failures;
    }
