use Rattle.std.proofs.Common.{◌≡◌, ◌∙◌, ◌++◌, ◌∷◌, [], ap, sym, refl, true, false}
use Rattle.hk_receiver.proofs.Segments.{gains_print, as_sent}
use Rattle.hk_receiver.proofs.segment.Segment.take.Goals as goal

pub returns-clause-gains : goal.returns-clause-gains
returns-clause-gains c = λ s form bytes byte none sent has.
    gains_print s form c.args.self.now bytes has byte _ c.args.print c.push.result refl
    (as_sent s form none (bytes ++ byte ∷ []) ∙ sent ∙ ap (λ ps. ps ++ c.args.print ∷ []) (sym (as_sent s form none bytes)))
    c.push.ensures.takes c.push.ensures.adds c.push.ensures.places c.push.ensures.completes refl
    (λ sound. absurd (let odd : true ≡ false = sym none ∙ sound in cc))
