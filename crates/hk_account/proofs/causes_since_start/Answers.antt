use Rattle.hk_account.proofs.Reasons as reasons
use Rattle.hk_account.proofs.causes_since_start.Goals as goal

pub returns : goal.returns
returns c rules = reasons.causes_since_start rules
