-- All words are options if those that are left are.
use Rattle.std.proofs.Common.{◌≡◌, length}
use Rattle.hk_words.specs.Choices.{verb_meant}
use Rattle.hk_words.specs.Options.{taken_by, word_texts, are_options}
use Rattle.hk_words.proofs.options.are_options.Given as goal

abbrev pub invariant-loop-rest : goal.invariant-loop-rest
invariant-loop-rest l = are_options (taken_by (verb_meant l.verb)) (word_texts l.words) ≡ are_options (taken_by (verb_meant l.verb)) (word_texts l.rest)

abbrev pub decreases-loop-rest : goal.decreases-loop-rest
decreases-loop-rest l = length l.rest
