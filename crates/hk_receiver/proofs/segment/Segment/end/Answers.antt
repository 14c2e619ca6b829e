use Rattle.std.proofs.Common.{◌∙◌}
use Rattle.hk_receiver.proofs.Segments.{empty, still_for}
use Rattle.hk_receiver.proofs.segment.Segment.end.Goals as goal

pub returns-clause-empty : goal.returns-clause-empty
returns-clause-empty c = λ s form bytes has.
    empty s form _ (still_for s has.set c.gap.ensures.rules.0 c.reset.ensures.block) c.reset.ensures.empty (λ sound. record {
      channels = c.gap.ensures.rules.1.0 ∙ (has.hears sound).channels;
      factor = c.gap.ensures.rules.1.1 ∙ (has.hears sound).factor;
      taken = c.gap.ensures.taken;
    })
