use Rattle.std.proofs.Common.{◌≡◌, sym, refl, ap, ◌∙◌, true, false}
use Rattle.std.specs.Prelude.{◌==◌}
use Rattle.hk_receiver.proofs.Segments.{empty, still_for, no_print}
use Rattle.hk_receiver.proofs.segment.Segment.start.Goals as goal

pub returns-then-form-ne0-clause-empty : goal.returns-then-form-ne0-clause-empty
returns-then-form-ne0-clause-empty c = λ s before has.
    empty s c.args.form _ (still_for s has.set c.start.ensures.flips refl) (no_print s before c.args.self.now has)
    (λ sound. record { channels = c.start.ensures.channels; factor = c.start.ensures.factor; taken = c.start.ensures.taken })

pub returns-else-form-ne0-clause-empty : goal.returns-else-form-ne0-clause-empty
returns-else-form-ne0-clause-empty c = λ s before has.
    empty s c.args.form c.args.self.now has.set (no_print s before c.args.self.now has)
    (λ sound. absurd (let none : true ≡ false = sym (ap (λ n. n == 0) c.if-form-ne0.false) ∙ sound in cc))
