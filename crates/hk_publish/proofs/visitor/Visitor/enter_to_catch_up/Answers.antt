use Rattle.hk_publish.proofs.Shared.{catches}
use Rattle.hk_publish.proofs.visitor.Visitor.enter_to_catch_up.Goals as goal

pub enter_as-requires : goal.enter_as-requires
enter_as-requires g c = record { rule = λ x. catches _ _ x }
