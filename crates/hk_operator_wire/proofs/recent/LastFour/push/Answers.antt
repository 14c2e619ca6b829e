use Rattle.std.proofs.Common.{refl}
use Rattle.hk_operator_wire.proofs.Moving.{begins, goes_on}
use Rattle.hk_operator_wire.proofs.recent.LastFour.push.Goals as goal

pub returns-clause-goes_on : goal.returns-clause-goes_on
returns-clause-goes_on c = λ bytes h. goes_on c.args.self.now _ bytes c.args.byte h refl

pub returns-clause-begins : goal.returns-clause-begins
returns-clause-begins c = λ bytes h. begins c.args.self.now _ bytes c.args.byte h refl
