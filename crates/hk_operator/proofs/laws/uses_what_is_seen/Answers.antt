use Rattle.hk_operator.proofs.Answering.{uses_what_is_seen}
use Rattle.hk_operator.proofs.laws.uses_what_is_seen.Goals as goal

pub returns : goal.returns
returns c = uses_what_is_seen
