use Rattle.hk_clerk.proofs.Attending.{new_desk_fits}
use Rattle.hk_clerk.proofs.laws.new_desks_fit.Goals as goal

pub returns : goal.returns
returns c = new_desk_fits
