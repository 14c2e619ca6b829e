use Rattle.std.proofs.Common.{sym}
use Rattle.hk_spec_sound.proofs.BegunWindows.{begun-nil}
use Rattle.hk_pcm.proofs.pcm.Pcm.new.Goals as goal

pub returns-clause-taken : goal.returns-clause-taken
returns-clause-taken c = sym (begun-nil _ _)
