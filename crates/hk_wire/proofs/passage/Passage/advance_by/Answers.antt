use Rattle.std.proofs.Common.{◌+◌, refl, sym, ap}
use Rattle.hk_wire.proofs.StillKept.{keeps_many}
use Rattle.hk_wire.proofs.passage.Passage.advance_by.Goals as goal

pub returns-clause-keeps : goal.returns-clause-keeps
returns-clause-keeps c = λ met text more none kept count fine.
    keeps_many met c.args.self.now text 0 kept _ more none fine refl (ap (λ n. c.args.self.now.taken + n) (sym count)) refl
