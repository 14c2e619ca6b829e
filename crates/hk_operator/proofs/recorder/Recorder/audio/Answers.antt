use Rattle.std.proofs.Common.{sym, ◌∙◌}
use Rattle.hk_operator.proofs.Hearing.{audio_done, audio_refused, sound_joined, sound_dropped}
use Rattle.hk_operator.proofs.recorder.Recorder.audio.Goals as goal

pub returns-then-is_some-clause-answer : goal.returns-then-is_some-clause-answer
returns-then-is_some-clause-answer c = λ rules state sound is. audio_done rules c.args.self.now state sound sound is (sym c.is_some.ensures ∙ c.if-is_some.true)

pub returns-then-is_some-clause-song : goal.returns-then-is_some-clause-song
returns-then-is_some-clause-song c = λ rules state sound is. sound_joined rules c.args.self.now state sound is

pub returns-else-is_some-clause-answer : goal.returns-else-is_some-clause-answer
returns-else-is_some-clause-answer c = λ rules state sound is. audio_refused rules c.args.self.now state sound sound is (sym c.is_some.ensures ∙ c.if-is_some.false)

pub returns-else-is_some-clause-song : goal.returns-else-is_some-clause-song
returns-else-is_some-clause-song c = λ rules state sound is. sound_dropped rules c.args.self.now state sound is (sym c.is_some.ensures ∙ c.if-is_some.false)
