use Rattle.std.proofs.Common.{arith}
use Rattle.hk_words.proofs.Commands.{order-empty}
use Rattle.hk_words.proofs.order.read_words.Goals as goal

pub returns-in-empty-clause-order : goal.returns-in-empty-clause-order
returns-in-empty-clause-order c = order-empty c.args.words.now.items (omega (arith, c.as_slice.ensures.len, c.in-empty.len_below))
