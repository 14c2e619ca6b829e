use Rattle.hk_words.specs.Rules.{rules_meant}
use Rattle.hk_run.proofs.Tasks.{nothing_printed}
use Rattle.hk_replay.proofs.replaying.replay_counted.Goals as goal

pub play-requires-clause-nothing_printed : goal.play-requires-clause-nothing_printed
play-requires-clause-nothing_printed g c = nothing_printed (rules_meant c.args.run.rules)
