use Rattle.std.proofs.Common.{refl, ◌∙◌, Some, None}
use Rattle.std.proofs.lemmas.List.{append-nil}
use Rattle.hk_receiver.proofs.Segments.{heard, hears_on, gains_none, gains_print}
use Rattle.hk_receiver.proofs.segment.Segment.hear.Goals as goal

pub returns-in-Some-clause-gains : goal.returns-in-Some-clause-gains
returns-in-Some-clause-gains c = λ s form bytes sound has.
    let was = (has.hears sound).taken in
    gains_print s form c.args.self.now bytes has c.args.byte _ c.in-Some.print c.push-in-Some.result refl
    (heard s form c.args.self.now bytes has c.args.byte sound (Some c.in-Some.print) (c.in-Some.ensures.print bytes was))
    c.push-in-Some.ensures.takes c.push-in-Some.ensures.adds c.push-in-Some.ensures.places c.push-in-Some.ensures.completes c.in-Some.ensures.rules.0
    (λ _. hears_on s form c.args.self.now bytes has c.args.byte sound _ c.in-Some.ensures.rules (c.in-Some.ensures.taken bytes was))

pub returns-in-None-clause-gains : goal.returns-in-None-clause-gains
returns-in-None-clause-gains c = λ s form bytes sound has.
    let was = (has.hears sound).taken in
    gains_none s form c.args.self.now bytes has c.args.byte _ refl c.in-None.ensures.rules.0
    (heard s form c.args.self.now bytes has c.args.byte sound None (c.in-None.ensures.print bytes was) ∙ append-nil _)
    (λ _. hears_on s form c.args.self.now bytes has c.args.byte sound _ c.in-None.ensures.rules (c.in-None.ensures.taken bytes was))
