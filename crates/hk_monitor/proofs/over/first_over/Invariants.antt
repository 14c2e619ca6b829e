use Rattle.std.proofs.Common.{◌≡◌, drop, None}
use Rattle.hk_monitor.specs.Over.{first_of_crew}
use Rattle.hk_monitor.proofs.over.first_over.Given as goal

-- with the workers that are left it is the first of all
abbrev pub invariant-loop-worker : goal.invariant-loop-worker
invariant-loop-worker g l = first_of_crew l.published l.first (drop l.worker-index l.crew) ≡ first_of_crew l.fn.published None l.fn.crew
