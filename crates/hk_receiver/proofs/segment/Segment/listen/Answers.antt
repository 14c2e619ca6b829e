use Rattle.std.proofs.Common.{refl, take, arith}
use Rattle.hk_receiver.proofs.Segments.{no_print_heard, listens_on}
use Rattle.hk_receiver.proofs.segment.Segment.listen.Goals as goal

pub returns-clause-no_print : goal.returns-clause-no_print
returns-clause-no_print c = λ s form bytes k sound has few.
    no_print_heard s form c.args.self.now bytes (take k c.args.sound.now) has sound (c.listen.ensures.no_print bytes k (has.hears sound).taken few)

pub returns-clause-goes_on : goal.returns-clause-goes_on
returns-clause-goes_on c = λ s form bytes sound has.
    let more = take c.listen.result c.args.sound.now in
    let was = (has.hears sound).taken in
    listens_on s form c.args.self.now bytes more has sound _ refl c.listen.ensures.rules (c.listen.ensures.taken bytes was)
    (no_print_heard s form c.args.self.now bytes more has sound (c.listen.ensures.no_print bytes c.listen.result was (omega arith)))
