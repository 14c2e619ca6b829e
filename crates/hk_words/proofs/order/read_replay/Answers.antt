use Rattle.std.proofs.Common.{◌∙◌, sym, ap, Some, option_map}
use Rattle.hk_spec_runs.specs.Options as verbs
use Rattle.hk_spec_runs.specs.Options.{STATIONS, options_for}
use Rattle.hk_spec_runs.specs.Words.{Replay, rules_of}
use Rattle.hk_words.specs.Options.{taken_by, word_texts}
use Rattle.hk_words.proofs.Pairs.{replay_values, options-some, options-none}
use Rattle.hk_words.proofs.order.read_replay.Goals as goal

pub run_rules-requires-clause-fits : goal.run_rules-requires-clause-fits
unfolding taken_by
run_rules-requires-clause-fits c = replay_values (word_texts c.args.words.now) (sym c.are_options.ensures ∙ c.if-are_options.true)

pub returns-then-are_options-clause-order : goal.returns-then-are_options-clause-order
unfolding taken_by
returns-then-are_options-clause-order c =
    ap (λ rules. Some (Replay rules)) c.run_rules.ensures.rules
    ∙ sym (ap (option_map (λ pairs. Replay (rules_of STATIONS pairs))) (options-some (options_for verbs.Replay) (word_texts c.args.words.now) (sym c.are_options.ensures ∙ c.if-are_options.true)))

pub returns-else-are_options-clause-order : goal.returns-else-are_options-clause-order
unfolding taken_by
returns-else-are_options-clause-order c =
    sym (ap (option_map (λ pairs. Replay (rules_of STATIONS pairs))) (options-none (options_for verbs.Replay) (word_texts c.args.words.now) (sym c.are_options.ensures ∙ c.if-are_options.false)))
