use Rattle.hk_spec_monitor.proofs.Legal.{lines_are_legal}
use Rattle.hk_spec_monitor.proofs.laws.history_law.Goals as goal

pub returns : goal.returns
returns c rules = lines_are_legal rules
