use Rattle.hk_publish.proofs.Shared.{enters}
use Rattle.hk_publish.proofs.visitor.Visitor.enter.Goals as goal

pub enter_as-requires : goal.enter_as-requires
enter_as-requires g c = record { rule = λ x. enters _ _ x }
