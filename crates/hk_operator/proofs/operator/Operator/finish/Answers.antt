use Rattle.std.proofs.Common.{None, Some}
use Rattle.hk_operator.proofs.Following.{ended_is}
use Rattle.hk_operator.proofs.operator.Operator.finish.Goals as goal

pub returns-in-Ok-clause-end : goal.returns-in-Ok-clause-end
returns-in-Ok-clause-end c = λ rules view operator_stream state h. ended_is rules c.args.self.now view operator_stream state h None c.in-Ok.ensures.outcome

pub returns-in-Err-clause-end : goal.returns-in-Err-clause-end
returns-in-Err-clause-end c = λ rules view operator_stream state h. ended_is rules c.args.self.now view operator_stream state h (Some c.in-Err.fault) c.in-Err.ensures.outcome
