-- Each enter so far was one to catch up.
use Rattle.hk_publish.specs.Known.{HasCaughtUp}
use Rattle.hk_publish.proofs.reading.catch_up.Given as goal

abbrev pub invariant-loop : goal.invariant-loop
invariant-loop g l = HasCaughtUp l.fn.visitor l.visitor
