use Rattle.std.proofs.Common.{sym, arith}
use Rattle.hk_decimate.proofs.Weights.{weights-rise, weights-fall}
use Rattle.hk_decimate.proofs.mean.weight.Goals as goal

pub returns-then-k-factor-clause-value : goal.returns-then-k-factor-clause-value
returns-then-k-factor-clause-value c = sym (weights-rise c.args.factor c.args.k (omega arith))

pub returns-else-k-factor-clause-value : goal.returns-else-k-factor-clause-value
returns-else-k-factor-clause-value c = sym (weights-fall c.args.factor c.args.k (omega arith) (omega arith))
