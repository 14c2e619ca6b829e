use Rattle.std.proofs.Common.{◌∙◌, refl, sym, subst, arith}
use Rattle.hk_monitor_top.specs.Ready.{rules_by, AreNumbered}
use Rattle.hk_monitor_top.proofs.Rows.{numbered_more}
use Rattle.hk_monitor_top.proofs.ready.new_stations.Goals as goal

pub loop-number-preserved : goal.loop-number-preserved
loop-number-preserved c = record {
  count = omega (arith, c.push_reserved.ensures.len, c.loop-number.invariant.count);
  room = omega (arith, c.push_reserved.ensures.capacity, c.loop-number.invariant.room);
  numbered = subst (AreNumbered (rules_by c.args.plan.now)) (sym c.push_reserved.ensures.items)
      (numbered_more (rules_by c.args.plan.now) c.loop-number.stations.items _ c.loop-number.invariant.numbered
      (c.in_ok-new.ensures.number ∙ sym c.loop-number.invariant.count)
      (c.in_ok-new.ensures.unheard (rules_by c.args.plan.now) refl refl));
}
