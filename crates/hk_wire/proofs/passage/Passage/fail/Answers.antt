use Rattle.std.proofs.Common.{refl}
use Rattle.hk_wire.proofs.StillKept.{keeps_some}
use Rattle.hk_wire.proofs.passage.Passage.fail.Goals as goal

pub returns-clause-keeps : goal.returns-clause-keeps
returns-clause-keeps c = λ met text byte none kept wrong. keeps_some met c.args.self.now text byte kept _ c.args.fault none wrong refl refl refl
