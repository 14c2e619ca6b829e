use Rattle.std.proofs.Common.{refl, sym, ◌∙◌}
use Rattle.hk_operator.specs.declared.recorder.Recorder.{Recorder}
use Rattle.hk_operator.proofs.Hearing.{open_refused, open_done, stays_open, song_begun, allowed_channels, allowed_factor}
use Rattle.hk_operator.proofs.recorder.Recorder.open.Goals as goal

pub returns-then-is_some-clause-answer : goal.returns-then-is_some-clause-answer
returns-then-is_some-clause-answer c = λ rules state is. open_refused rules c.args.self.now state c.args.id c.args.form _ is (sym c.is_some.ensures ∙ c.if-is_some.true)

pub returns-then-is_some-clause-song : goal.returns-then-is_some-clause-song
returns-then-is_some-clause-song c = λ rules state fixed allowed is. stays_open rules c.args.self.now state c.args.id c.args.form is

pub returns-clause-answer : goal.returns-clause-answer
returns-clause-answer c = λ rules state is. open_done rules c.args.self.now state c.args.id c.args.form _ is (sym c.is_some.ensures ∙ c.if-is_some.false)

pub returns-clause-song : goal.returns-clause-song
returns-clause-song c = λ rules state fixed allowed is.
    let few = allowed_channels c.args.form allowed in
    let small = allowed_factor c.args.form allowed in
    let now : Recorder = record c.args.self.now { front = c.start.new.self; song = _; words = c.clear.new.self } in
    song_begun rules now state c.args.id c.args.form c.args.self.now.words fixed allowed refl (c.start.ensures.channels ∙ c.bounded.ensures.same few.0 few.1)
    (c.start.ensures.factor ∙ c.bounded-2.ensures.same small.0 small.1) c.start.ensures.taken c.clear.ensures
