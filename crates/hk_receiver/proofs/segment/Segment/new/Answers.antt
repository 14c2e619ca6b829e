use Rattle.hk_receiver.proofs.Segments.{empty}
use Rattle.hk_receiver.proofs.segment.Segment.new.Goals as goal

pub returns-clause-empty : goal.returns-clause-empty
returns-clause-empty c = λ s set. empty s _ _ set c.requires.none (λ none. absurd (cc))
