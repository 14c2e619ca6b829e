use Rattle.std.proofs.Common.{sym, ap, ◌∙◌, arith, drop, Option, Some}
use Rattle.std.specs.List.{slice_get}
use Rattle.hk_table.specs.declared.place.Place.{Place}
use Rattle.hk_table.proofs.Walking.{step}
use Rattle.hk_table.proofs.walk.Walk.advance.Goals as goal

pub invariant_of-self-then-visit-self : goal.invariant_of-self-then-visit-self
invariant_of-self-then-visit-self g c =
    let seen = step c.loop-self.self-inside c.visit-visit.result.next c.loop-self.invariant.walk c.loop-self-test.true c.visit-visit.ensures.next in
    record { orderly = c.loop-self.invariant.walk.orderly; at = seen.at }

pub returns-then-visit-self-clause-place : goal.returns-then-visit-self-clause-place
returns-then-visit-self-clause-place g c =
    let seen = step c.loop-self.self-inside c.visit-visit.result.next c.loop-self.invariant.walk c.loop-self-test.true c.visit-visit.ensures.next in
    let place : Place → Option Place = λ p. Some p in
    (λ i. place (record { slot = c.visit-visit.ensures.slot i; pos = c.visit-visit.ensures.pos i }))
    ∙ sym (ap (λ ps. slice_get ps 0) (sym c.loop-self.invariant.places ∙ seen.hit (sym c.visit-visit.ensures.word ∙ c.if-visit-self.true)))

pub returns-then-visit-self-clause-left : goal.returns-then-visit-self-clause-left
returns-then-visit-self-clause-left g c =
    let seen = step c.loop-self.self-inside c.visit-visit.result.next c.loop-self.invariant.walk c.loop-self-test.true c.visit-visit.ensures.next in
    sym (ap (drop 1) (sym c.loop-self.invariant.places ∙ seen.hit (sym c.visit-visit.ensures.word ∙ c.if-visit-self.true)))

pub returns-then-visit-self-clause-ticks : goal.returns-then-visit-self-clause-ticks
returns-then-visit-self-clause-ticks g c =
    let seen = step c.loop-self.self-inside c.visit-visit.result.next c.loop-self.invariant.walk c.loop-self-test.true c.visit-visit.ensures.next in
    omega (arith, seen.nodes, c.visit-visit.ensures.ticks, c.loop-self.invariant.ticks)

pub loop-self-smaller : goal.loop-self-smaller
loop-self-smaller g c =
    let seen = step c.loop-self.self-inside c.visit-visit.result.next c.loop-self.invariant.walk c.loop-self-test.true c.visit-visit.ensures.next in
    omega (arith, seen.nodes)

pub loop-self-preserved : goal.loop-self-preserved
loop-self-preserved g c =
    let seen = step c.loop-self.self-inside c.visit-visit.result.next c.loop-self.invariant.walk c.loop-self-test.true c.visit-visit.ensures.next in
    record {
      walk = record { orderly = c.loop-self.invariant.walk.orderly; at = seen.at };
      places = sym (seen.miss (λ same. c.if-visit-self.false (c.visit-visit.ensures.word ∙ same))) ∙ c.loop-self.invariant.places;
      ticks = omega (arith, seen.nodes, c.visit-visit.ensures.ticks, c.loop-self.invariant.ticks);
    }
