use Rattle.hk_publish.proofs.Telling.{note_stays}
use Rattle.hk_publish.proofs.laws.notes_stay.Goals as goal

pub returns : goal.returns
returns c = note_stays
