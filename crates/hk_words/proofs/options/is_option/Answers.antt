use Rattle.hk_words.specs.Options.{taken_by}
use Rattle.hk_words.proofs.options.is_option.Goals as goal

pub returns : goal.returns
unfolding taken_by
returns c = c.is_given.ensures
