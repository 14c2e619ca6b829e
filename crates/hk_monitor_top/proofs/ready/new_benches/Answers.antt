use Rattle.std.proofs.Common.{All, sym, subst, arith}
use Rattle.std.proofs.lemmas.List.Elements.{All-push}
use Rattle.hk_monitor_top.specs.Ready.{IsBench}
use Rattle.hk_monitor_top.proofs.ready.new_benches.Goals as goal

pub loop-worker-preserved : goal.loop-worker-preserved
loop-worker-preserved g c = record {
  count = omega (arith, c.push_reserved.ensures.len, c.loop-worker.invariant.count);
  room = omega (arith, c.push_reserved.ensures.capacity, c.loop-worker.invariant.room);
  empty = subst (All (IsBench c.args.plan.now.stations c.args.plan.now.positions)) (sym c.push_reserved.ensures.items)
      (All-push (IsBench c.args.plan.now.stations c.args.plan.now.positions) c.loop-worker.benches.items _ c.loop-worker.invariant.empty c.in_ok-new_bench.ensures);
}
