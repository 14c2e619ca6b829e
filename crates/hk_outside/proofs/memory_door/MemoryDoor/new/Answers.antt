use Rattle.hk_outside.specs.Places.{HasEmpty}
use Rattle.hk_outside.proofs.Handing.{is_inside, all_inside}
use Rattle.hk_outside.proofs.memory_door.MemoryDoor.new.Goals as goal

pub invariant_of-result-clause-logs : goal.invariant_of-result-clause-logs
invariant_of-result-clause-logs c = all_inside HasEmpty c.args.stations.items c.in_ok-inside.field-0.items c.in_ok-inside.ensures c.requires.logs

pub invariant_of-result-clause-replies : goal.invariant_of-result-clause-replies
invariant_of-result-clause-replies c = is_inside HasEmpty (c.args.calls, c.args.replies) c.requires.replies
