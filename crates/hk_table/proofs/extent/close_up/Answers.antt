use Rattle.std.proofs.Common.{◌∙◌, ap, arith, get_or, set, None, Option}
use Rattle.std.specs.Option.{option_map}
use Rattle.std.proofs.lemmas.List.{get_or_default}
use Rattle.std.proofs.lemmas.List.Edits.{map_over_more}
use Rattle.hk_table.specs.Extents.{moved_down}
use Rattle.hk_table.specs.declared.extent.Extent.{Extent}
use Rattle.hk_table.proofs.extent.close_up.Goals as goal

pub loop-slot-preserved : goal.loop-slot-preserved
loop-slot-preserved c =
    let slot : Option Extent = get_or c.loop-slot.slots c.loop-slot.slot-index None in
    ap (set c.loop-slot.slots c.loop-slot.slot-index) (c.closed_up.ensures ∙ ap (option_map (moved_down c.args.gone)) (get_or_default c.loop-slot.slots c.loop-slot.slot-index _ None (omega arith)))
    ∙ map_over_more (option_map (moved_down c.args.gone)) c.args.slots.now c.loop-slot.slots c.loop-slot.slot-index slot c.loop-slot-test.true c.loop-slot.invariant
    (get_or_default c.loop-slot.slots c.loop-slot.slot-index None slot (omega arith))
