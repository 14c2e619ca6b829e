use Rattle.std.proofs.Common.{refl}
use Rattle.hk_wire.proofs.StillKept.{keeps_none}
use Rattle.hk_wire.proofs.passage.Passage.advance.Goals as goal

pub returns-clause-keeps : goal.returns-clause-keeps
returns-clause-keeps c = λ met text byte none kept fine. keeps_none met c.args.self.now text byte kept _ none fine refl refl refl
