use Rattle.std.proofs.Common.{◌≡◌, sym, ◌∙◌, subst, arith}
use Rattle.hk_wire.specs.Held.{is_over}
use Rattle.hk_operator_wire.specs.Items.{last_command}
use Rattle.hk_operator_wire.proofs.Reading.{at_border}
use Rattle.hk_operator_wire.proofs.reader.OpReader.may_end.Goals as goal

pub returns-then-place-ge-HELLO_SIZE : goal.returns-then-place-ge-HELLO_SIZE
returns-then-place-ge-HELLO_SIZE c = λ text place h.
    subst (λ size. c.is_over.result ≡ is_over size (last_command text)) c.args.self.now.long_lengths (c.is_over.ensures (last_command text) h.packet)
    ∙ sym (at_border text (omega arith))
