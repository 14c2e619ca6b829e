use Rattle.std.proofs.Common.{◌∙◌, sym, ap, Some, option_map}
use Rattle.hk_spec_runs.specs.Options as verbs
use Rattle.hk_spec_runs.specs.Options.{options_for}
use Rattle.hk_spec_runs.specs.Words.{Print, printing_of}
use Rattle.hk_words.specs.Options.{taken_by, word_texts}
use Rattle.hk_words.proofs.Pairs.{print_values, options-some, options-none}
use Rattle.hk_words.proofs.order.read_print.Goals as goal

pub print_rules-requires : goal.print_rules-requires
unfolding taken_by
print_rules-requires c = print_values (word_texts c.args.words.now) (sym c.are_options.ensures ∙ c.if-are_options.true)

pub returns-then-are_options-clause-order : goal.returns-then-are_options-clause-order
unfolding taken_by
returns-then-are_options-clause-order c =
    ap (λ rules. Some (Print rules)) c.print_rules.ensures.rules
    ∙ sym (ap (option_map (λ pairs. Print (printing_of pairs))) (options-some (options_for verbs.Print) (word_texts c.args.words.now) (sym c.are_options.ensures ∙ c.if-are_options.true)))

pub returns-else-are_options-clause-order : goal.returns-else-are_options-clause-order
unfolding taken_by
returns-else-are_options-clause-order c =
    sym (ap (option_map (λ pairs. Print (printing_of pairs))) (options-none (options_for verbs.Print) (word_texts c.args.words.now) (sym c.are_options.ensures ∙ c.if-are_options.false)))
