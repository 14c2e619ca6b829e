use Rattle.std.proofs.Common.{ap, refl}
use Rattle.hk_frames.proofs.Taking.{taken_nothing}
use Rattle.hk_frames.proofs.ring.Frames.reset.Goals as goal

pub returns : goal.returns
returns c = record { taken = taken_nothing _ (ap (λ b. b.items) c.clear.ensures) refl }
