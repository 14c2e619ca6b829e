use Rattle.hk_operator.proofs.Answering.{publishes_are_replied_to}
use Rattle.hk_operator.proofs.laws.publishes_are_replied_to.Goals as goal

pub returns : goal.returns
returns c = publishes_are_replied_to
