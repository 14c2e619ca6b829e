use Rattle.hk_account.proofs.Torn as torn
use Rattle.hk_account.proofs.torn_account_since_start.Goals as goal

pub returns : goal.returns
returns c rules = torn.torn_account_since_start rules
