use Rattle.std.proofs.Common.{◌≡◌, length, map, arith}
use Rattle.std.proofs.Math.ListN.{length-map}
use Rattle.hk_seating.proofs.Lists.{all_over}
use Rattle.hk_seating.proofs.seating.man_gates.Goals as goal

pub returns-clause-gates : goal.returns-clause-gates
returns-clause-gates g c =
    let none : length c.loop-gate.gates.items ≡ 0 = omega (arith, c.in_default.ensures.cases.0) in
    all_over (λ worker. worker.gate) c.loop-gate.gates.items c.loop-gate.crew.items c.reverse.new.self.items c.args.gates.now.items none c.loop-gate.invariant.gates c.reverse.ensures.items

pub returns-clause-seats : goal.returns-clause-seats
returns-clause-seats g c =
    let long = length-map c.loop-gate.benches.items (λ bench. bench.seats) in
    let none : length (map (λ bench. bench.seats) c.loop-gate.benches.items) ≡ 0 = omega (arith, long, c.loop-gate.invariant.as_many, c.in_default.ensures.cases.0) in
    all_over (λ worker. worker.seats) (map (λ bench. bench.seats) c.loop-gate.benches.items) c.loop-gate.crew.items c.reverse.new.self.items _ none c.loop-gate.invariant.seats c.reverse.ensures.items

pub returns-clause-scratches : goal.returns-clause-scratches
returns-clause-scratches g c =
    let long = length-map c.loop-gate.benches.items (λ bench. bench.scratch) in
    let none : length (map (λ bench. bench.scratch) c.loop-gate.benches.items) ≡ 0 = omega (arith, long, c.loop-gate.invariant.as_many, c.in_default.ensures.cases.0) in
    all_over (λ worker. worker.scratch) (map (λ bench. bench.scratch) c.loop-gate.benches.items) c.loop-gate.crew.items c.reverse.new.self.items _ none c.loop-gate.invariant.scratches c.reverse.ensures.items
