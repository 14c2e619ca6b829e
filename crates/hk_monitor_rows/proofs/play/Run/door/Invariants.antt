use Rattle.std.specs.List.{All}
use Rattle.hk_outside.specs.Places.{HasEmpty}
use Rattle.hk_monitor_rows.proofs.play.Run.door.Given as goal

-- the logs so far are empty
abbrev pub invariant-loop-number : goal.invariant-loop-number
invariant-loop-number l = All HasEmpty l.stations.items
