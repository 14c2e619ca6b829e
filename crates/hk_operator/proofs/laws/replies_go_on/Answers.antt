use Rattle.hk_operator.proofs.Answering.{replies_begin, replies_go_on}
use Rattle.hk_operator.proofs.laws.replies_go_on.Goals as goal

pub returns-clause-begin : goal.returns-clause-begin
returns-clause-begin c = replies_begin

pub returns-clause-go_on : goal.returns-clause-go_on
returns-clause-go_on c = replies_go_on
