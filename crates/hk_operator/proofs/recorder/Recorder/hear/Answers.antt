use Rattle.std.proofs.Common.{◌++◌, ◌∷◌, [], None, Some, not, ap, sym, ◌∙◌, subst}
use Rattle.hk_operator.specs.WordBuffer.{Buffered}
use Rattle.hk_operator.specs.Sound.{IsRecording}
use Rattle.hk_operator.proofs.Hearing.{hears_more, none_not_some}
use Rattle.hk_operator.proofs.recorder.Recorder.hear.Goals as goal

pub returns-in-Some-clause-hears : goal.returns-in-Some-clause-hears
returns-in-Some-clause-hears c = λ rules song sound fixed is.
    subst (λ (words : Buffered). IsRecording rules (record c.args.self.now { front = c.push.new.self; words = words }) song (sound ++ c.args.byte ∷ [])) (sym c.push-in-Some.ensures)
    (hears_more rules c.args.self.now song sound c.args.byte c.push.new.self (Some c.in-Some.print) fixed
    (none_not_some c.args.self.now.song (c.is_none.ensures ∙ ap not c.if-is_none.false))
    c.in-Some.ensures.rules c.in-Some.ensures.taken c.in-Some.ensures.print is)

pub returns-in_default-clause-hears : goal.returns-in_default-clause-hears
returns-in_default-clause-hears c = λ rules song sound fixed is.
    hears_more rules c.args.self.now song sound c.args.byte c.push.new.self None fixed
    (none_not_some c.args.self.now.song (c.is_none.ensures ∙ ap not c.if-is_none.false))
    c.in_default.ensures.rules c.in_default.ensures.taken c.in_default.ensures.print is
