use Rattle.hk_account.proofs.Accounts as accounts
use Rattle.hk_account.proofs.account_since_start.Goals as goal

pub returns : goal.returns
returns c rules = accounts.account_since_start rules
