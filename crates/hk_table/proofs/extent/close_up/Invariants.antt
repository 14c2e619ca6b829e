-- The slots before this one are closed up.
use Rattle.std.proofs.Common.{◌≡◌, ◌++◌, map, take, drop}
use Rattle.std.specs.Option.{option_map}
use Rattle.hk_table.specs.Extents.{moved_down}
use Rattle.hk_table.proofs.extent.close_up.Given as goal

abbrev pub invariant-loop-slot : goal.invariant-loop-slot
invariant-loop-slot l = l.slots ≡ map (option_map (moved_down l.gone)) (take l.slot-index l.fn.slots) ++ drop l.slot-index l.fn.slots
