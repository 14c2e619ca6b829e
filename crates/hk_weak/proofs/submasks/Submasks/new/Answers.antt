use Rattle.hk_weak.proofs.Subsets.{subsets_from-first}
use Rattle.hk_weak.proofs.submasks.Submasks.new.Goals as goal

pub returns : goal.returns
returns c = subsets_from-first c.args.mask
