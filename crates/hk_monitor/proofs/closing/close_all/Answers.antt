use Rattle.std.proofs.Common.{rules, ◌≡◌, ◌<◌, length, slice_index_or, slice_set, refl, sym, ◌∙◌, subst, arith}
use Rattle.std.proofs.lemmas.List.{length-set, get_or_default}
use Rattle.hk_monitor.specs.declared.crew.Crewman.{Crewman}
use Rattle.hk_monitor.specs.Closing.{ClosesSeats}
use Rattle.hk_monitor.proofs.Gathering.{done_more, left_above}
use Rattle.hk_monitor.proofs.closing.close_all.Goals as goal

pub loop-w-preserved : goal.loop-w-preserved
loop-w-preserved g c =
    let old = c.index_mut.result.now in
    let inside : c.loop-w.w < length c.loop-w.crew.items = search rules in
    let new : Crewman _ _ _ _ = record { seats = c.close_seats.new.seats; gate = old.gate; scratch = old.scratch } in
    let now : (d : Crewman _ _ _ _) → ClosesSeats c.args.desk.now.published (slice_index_or c.args.crew.now.items c.loop-w.w d) new = λ d. subst (λ worker. ClosesSeats c.args.desk.now.published worker new)
    (c.index_mut.ensures.value ∙ get_or_default c.loop-w.crew.items c.loop-w.w old d inside ∙ c.loop-w.invariant.left c.loop-w.w d (omega arith))
    (record { gate = refl; scratch = refl; seats = c.close_seats.ensures }) in
    record {
      as_many = length-set c.loop-w.crew.items c.loop-w.w new ∙ c.loop-w.invariant.as_many;
      closed = done_more (ClosesSeats c.args.desk.now.published) c.args.crew.now.items c.loop-w.crew.items c.loop-w.w new inside now c.loop-w.invariant.closed;
      left = left_above (ClosesSeats c.args.desk.now.published) c.args.crew.now.items c.loop-w.crew.items c.loop-w.w new inside now c.loop-w.invariant.left;
    }
