use Rattle.std.proofs.Common.{◌∙◌, sym}
use Rattle.hk_words.specs.Choices.{verb_meant}
use Rattle.hk_words.specs.Options.{taken_by}
use Rattle.hk_words.proofs.Pairs.{at_end}
use Rattle.hk_words.proofs.options.are_options.Goals as goal

pub returns : goal.returns
returns c =
    c.is_empty.ensures ∙ at_end (taken_by (verb_meant c.args.verb)) c.loop-rest.rest.now c.in_default.len_below ∙ sym c.loop-rest.invariant
