use Rattle.std.proofs.Common.{rules, ◌≡◌, sym, ◌∙◌, ap, subst, true, false}
use Rattle.hk_base.specs.Devices.{Rose}
use Rattle.hk_loop.specs.Serving.{Keeps, HasServed}
use Rattle.hk_loop.specs.Rows.{Each, AreOver}
use Rattle.hk_loop.proofs.Lists.{each_next, keeps_next, all_served, all_closed, gate_counts}
use Rattle.hk_loop.proofs.serving.serve_counted.Goals as goal
use Rattle.hk_loop.proofs.serving.serve_counted.Goals.{else-not-is_any_ready-via-then-not-is_any_ready+else-is_err-2, else-not-is_any_ready-via-else-not-is_any_ready}

pub returns-then-is_err-clause-served : goal.returns-then-is_err-clause-served
returns-then-is_err-clause-served g c =
    let rose : Rose (g.G.Gate.faults c.args.gate.now) (g.G.Gate.faults c.watch_all.new.gate) = search rules in
    all_closed (g.G.Gate.faults c.args.gate.now) (g.G.Gate.faults c.watch_all.new.gate) c.args.seats.now.items c.watch_all.new.seats.items c.close_all.new.seats.items
    c.requires.going c.watch_all.ensures.keeps c.close_all.ensures rose

pub returns-then-are_over-clause-served : goal.returns-then-are_over-clause-served
returns-then-are_over-clause-served g c =
    let gate = g.G.Gate.faults c.args.gate.now in
    subst (λ n. Each (HasServed g.G.Link.Link g.S.Sink g.V.Looker gate n) c.args.seats.now.items c.loop.seats.items) (sym c.loop.invariant.count)
    (all_served gate c.args.seats.now.items c.loop.seats.items c.requires.going c.loop.invariant.keeps (subst (AreOver true) c.deref.ensures.value c.if-are_over.ensures.over))

pub returns-then-is_err-2-clause-served : goal.returns-then-is_err-2-clause-served
returns-then-is_err-2-clause-served g c =
    let failed : Rose (g.G.Gate.faults c.loop.gate) (g.G.Gate.faults c.wait.new.self) = search rules in
    let rose = subst (λ n. Rose n (g.G.Gate.faults c.wait.new.self)) c.loop.invariant.count failed in
    all_closed (g.G.Gate.faults c.args.gate.now) (g.G.Gate.faults c.wait.new.self) c.args.seats.now.items c.loop.seats.items c.close_all-then-is_err-2.new.seats.items
    c.requires.going c.loop.invariant.keeps c.close_all-then-is_err-2.ensures rose

pub returns-then-is_err-2-clause-gate : goal.returns-then-is_err-2-clause-gate
returns-then-is_err-2-clause-gate g c =
    let failed : Rose (g.G.Gate.faults c.loop.gate) (g.G.Gate.faults c.wait.new.self) = search rules in
    let rose = subst (λ n. Rose n (g.G.Gate.faults c.wait.new.self)) c.loop.invariant.count failed in
    let goes = subst (AreOver false) c.deref.ensures.value c.if-are_over.ensures.over in
    gate_counts (g.G.Gate.faults c.args.gate.now) (g.G.Gate.faults c.wait.new.self) goes.0 c.loop.seats.items c.close_all-then-is_err-2.new.seats.items
    goes.1 goes.2 c.close_all-then-is_err-2.ensures rose

pub loop-preserved : goal.loop-preserved
loop-preserved g c =
    let K = Keeps g.G.Link.Link g.S.Sink g.V.Looker in
    record {
      keeps = each_next K K K keeps_next c.args.seats.now.items c.loop.seats.items c.take_turns.new.seats.items c.loop.invariant.keeps c.take_turns.ensures.keeps;
      room = c.take_turns.ensures.scratch_room ∙ c.loop.invariant.room;
      count = elim c.else-not-is_any_ready.branch [
        | else-not-is_any_ready-via-then-not-is_any_ready+else-is_err-2 w ↦ search rules
        | else-not-is_any_ready-via-else-not-is_any_ready w ↦ search rules
      ];
    }
