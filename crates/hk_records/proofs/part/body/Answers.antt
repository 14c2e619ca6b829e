use Rattle.std.proofs.Common.{arith}
use Rattle.hk_records.proofs.Bodies.{some_left}
use Rattle.hk_records.proofs.part.body.Goals as goal

pub returns-else-left-eq0-clause-rest : goal.returns-else-left-eq0-clause-rest
returns-else-left-eq0-clause-rest c = λ high low payload is. some_left c.args.owner high low c.args.left payload (omega arith) is
