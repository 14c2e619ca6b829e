use Rattle.hk_publish.proofs.Telling.{lists_tell}
use Rattle.hk_publish.proofs.laws.lists_tell_journals.Goals as goal

pub returns : goal.returns
returns c = lists_tell
