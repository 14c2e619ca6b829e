use Rattle.std.proofs.Common.{ap, refl}
use Rattle.hk_frames.proofs.Taking.{taken_nothing}
use Rattle.hk_frames.proofs.ring.Frames.new.Goals as goal

pub returns-in-Ok : goal.returns-in-Ok
returns-in-Ok c = record { taken = taken_nothing _ (ap (λ b. b.items) c.in-Ok.ensures) refl }
