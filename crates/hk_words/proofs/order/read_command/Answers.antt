use Rattle.std.proofs.Common.{◌∙◌, sym, codes}
use Rattle.hk_words.specs.Options.{word_texts}
use Rattle.hk_words.proofs.Commands.{order-make, order-named, order-none}
use Rattle.hk_words.proofs.order.read_command.Goals as goal

pub returns-then-eq-clause-order : goal.returns-then-eq-clause-order
returns-then-eq-clause-order c =
    c.read_make.ensures.order ∙ order-make c.args.command.now (word_texts c.args.words.now) (sym c.eq.ensures ∙ c.if-eq.true)

pub returns-then-eq-2-clause-order : goal.returns-then-eq-2-clause-order
returns-then-eq-2-clause-order c =
    c.read_replay.ensures.order
    ∙ order-named c.args.command.now (codes "replay") (word_texts c.args.words.now) (sym c.eq.ensures ∙ c.if-eq.false) (sym c.eq-else-eq.ensures ∙ c.if-eq-2.true)

pub returns-then-eq-3-clause-order : goal.returns-then-eq-3-clause-order
returns-then-eq-3-clause-order c =
    c.read_print.ensures.order
    ∙ order-named c.args.command.now (codes "print") (word_texts c.args.words.now) (sym c.eq.ensures ∙ c.if-eq.false) (sym c.eq-else-eq-2.ensures ∙ c.if-eq-3.true)

pub returns-else-eq-3-clause-order : goal.returns-else-eq-3-clause-order
returns-else-eq-3-clause-order c =
    order-none c.args.command.now (word_texts c.args.words.now) (sym c.eq.ensures ∙ c.if-eq.false) (sym c.eq-else-eq.ensures ∙ c.if-eq-2.false) (sym c.eq-else-eq-2.ensures ∙ c.if-eq-3.false)
