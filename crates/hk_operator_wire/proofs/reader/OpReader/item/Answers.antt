use Rattle.std.proofs.Common.{◌≡◌, ap, ◌∙◌, subst, length, arith}
use Rattle.std.specs.Prelude.{◌||◌}
use Rattle.std.proofs.lemmas.Bool.{ne_eqb}
use Rattle.hk_wire.specs.Held.{is_over}
use Rattle.hk_operator_wire.specs.Items.{head_of, brought_by, brought, joined, is_whole_command}
use Rattle.hk_operator_wire.proofs.Bringing.{brought-number}
use Rattle.hk_operator_wire.proofs.reader.OpReader.item.Goals as goal

pub returns : goal.returns
returns c = λ bytes last ends some head byte.
    let part = c.brought_by.ensures ∙ ap (λ h. brought_by h c.number.result c.args.byte) head ∙ ap (brought_by (head_of bytes) c.number.result) byte
    ∙ brought-number bytes c.number.result (λ long. c.number.ensures bytes ends (omega (arith, long))) in
    let whole = subst (λ size. c.is_over.result ≡ is_over size bytes) c.args.self.now.long_lengths (c.is_over.ensures bytes last) in
    c.joined.ensures ∙ ap (λ p. joined p c.is_over.result) part ∙ ap (joined (brought bytes)) (whole ∙ ap (λ t. t || is_whole_command bytes) (ne_eqb (length bytes) 0 (λ none. omega (arith, some, none))))
