use Rattle.std.proofs.Common.{refl}
use Rattle.hk_spec_streams.specs.Pieces.{first_met}
use Rattle.hk_wire.proofs.passage.Passage.new.Goals as goal

pub returns-clause-keeps : goal.returns-clause-keeps
unfolding first_met
returns-clause-keeps c = λ met. record { fault_is = refl; taken_is = refl }
