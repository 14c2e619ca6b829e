-- What stands behind the name in all words stands there in those that are left.
use Rattle.std.proofs.Common.{◌≡◌, length}
use Rattle.hk_words.specs.Options.{word_texts, behind}
use Rattle.hk_words.proofs.options.number_behind.Given as goal

abbrev pub invariant-loop-rest : goal.invariant-loop-rest
invariant-loop-rest l = behind (word_texts l.words) l.name ≡ behind (word_texts l.rest) l.name

abbrev pub decreases-loop-rest : goal.decreases-loop-rest
decreases-loop-rest l = length l.rest
