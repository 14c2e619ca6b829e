use Rattle.std.specs.Prelude.{replicate}
use Rattle.hk_words.specs.Rules.{rules_meant}
use Rattle.hk_spec_runs.specs.Listening.{unheard}
use Rattle.hk_run.specs.Holding.{AreHearing}
use Rattle.hk_run.proofs.opening.open_stations.Given as goal

-- the stations so far
abbrev pub invariant-loop-number : goal.invariant-loop-number
invariant-loop-number l = AreHearing (rules_meant l.rules) 0 l.stations.items (replicate l.number unheard)
