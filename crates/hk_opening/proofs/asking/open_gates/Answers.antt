use Rattle.std.proofs.Common.{◌≡◌, ◌∙◌, ◌+◌, ℕ, ap, arith}
use Rattle.hk_outside.specs.Doors.{Doorway}
use Rattle.hk_outside.specs.declared.door.Ask.TheVariants as asks
use Rattle.hk_opening.proofs.Order.{gate_handed, gate_refused, one_more, refused_next, until_next, more_asked, more_given}
use Rattle.hk_opening.proofs.Out.{gate_more}
use Rattle.hk_opening.proofs.asking.open_gates.Goals as goal

pub returns-in-Err-clause-asked : goal.returns-in-Err-clause-asked
returns-in-Err-clause-asked g c =
    let before = c.loop-number.invariant in
    refused_next asks.Gate c.args.count c.loop-number.number _ _ _ c.loop-number-test.true before.asked
    (gate_refused c.loop-number.number _ _ _ c.in-Err.ensures.refused.asked.calls before.counted)

pub returns-in-Err-clause-last : goal.returns-in-Err-clause-last
returns-in-Err-clause-last g c =
    let before = c.loop-number.invariant in
    until_next asks.Gate c.loop-number.number _ _ _ _ before.count before.asked (gate_refused c.loop-number.number _ _ _ c.in-Err.ensures.refused.asked.calls before.counted)

pub loop-number-preserved : goal.loop-number-preserved
loop-number-preserved g c =
    let before = c.loop-number.invariant in
    let n : ℕ = c.loop-number.number in
    let mid : Doorway = g.D.Door.doorway c.loop-number.door in
    let new : Doorway = g.D.Door.doorway c.gate.new.self in
    let handed = gate_handed n _ _ mid new c.in-Ok.ensures.ok before.counted before.given in
    let told : g.D.Gate.Gate.faults c.in-Ok.gate ≡ (mid.gates n).faults = c.in-Ok.ensures.gate ∙ ap (λ w. (mid.gates w).faults) before.given in
    record {
      asked = one_more asks.Gate n _ _ _ before.asked handed.asked.calls;
      counted = more_asked n _ _ _ handed.asked.calls ∙ ap (λ k. k + 1) before.counted;
      given = more_given n _ _ handed.asked.calls ∙ ap (λ k. k + 1) before.given;
      start = record { start = handed.asked.start ∙ before.start.start; plan = handed.asked.plan ∙ before.start.plan };
      out = rw c.push_reserved.ensures.items (gate_more g.D.Gate.Gate.faults c.loop-number.gates.items c.in-Ok.gate _ mid new n before.count before.out handed told);
      count = omega (arith, c.push_reserved.ensures.len, before.count);
      room = omega (arith, c.push_reserved.ensures.capacity, before.room);
      operator = handed.others.operator (λ same. cc) ∙ before.operator;
      stations = λ k. handed.others.stations k (λ same. cc) ∙ before.stations k;
      counts_failures = c.in-Ok.ensures.counts_failures ∙ before.counts_failures;
    }
