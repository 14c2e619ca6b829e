use Rattle.std.proofs.Common.{◌∙◌, sym, ap, Some}
use Rattle.hk_spec_runs.specs.Words.{Make}
use Rattle.hk_words.specs.Options.{taken_by, word_texts}
use Rattle.hk_words.proofs.Pairs.{make_values}
use Rattle.hk_words.proofs.Commands.{made-some, made-far, made-none}
use Rattle.hk_words.proofs.order.made.Goals.{else-holds-via-then-holds+else-are_options, else-holds-via-else-holds}
use Rattle.hk_words.proofs.order.made.Goals as goal

pub run_rules-requires-clause-fits : goal.run_rules-requires-clause-fits
unfolding taken_by
run_rules-requires-clause-fits c = make_values (word_texts c.args.words.now) (sym c.are_options.ensures ∙ c.if-are_options.true)

pub returns-then-are_options-clause-order : goal.returns-then-are_options-clause-order
unfolding taken_by
returns-then-are_options-clause-order c text is =
    ap (λ rules. Some (Make c.args.seed rules)) c.run_rules.ensures.rules
    ∙ made-some (word_texts c.args.words.now) text c.args.seed (sym c.holds.ensures ∙ c.if-holds.true) (sym c.are_options.ensures ∙ c.if-are_options.true) is

pub returns-else-holds-clause-order : goal.returns-else-holds-clause-order
unfolding taken_by
returns-else-holds-clause-order c text is = elim c.else-holds.branch [
  | else-holds-via-then-holds+else-are_options w ↦
      made-none (word_texts c.args.words.now) text c.args.seed (sym w.are_options.ensures ∙ w.if-are_options.false) is
  | else-holds-via-else-holds w ↦ made-far (word_texts c.args.words.now) text c.args.seed (sym c.holds.ensures ∙ w.if-holds.false) is
]
