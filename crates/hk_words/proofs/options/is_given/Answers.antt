use Rattle.std.proofs.Common.{◌∙◌, rules, tests}
use Rattle.std.proofs.lemmas.Iterator.{YieldsList-from_slice}
use Rattle.std.proofs.lemmas.Iterator.Search.{any_from_yields_List}
use Rattle.hk_words.specs.Choices.{gives, verb_meant}
use Rattle.hk_words.proofs.Pairs.{given-is}
use Rattle.hk_words.proofs.options.is_given.Goals as goal

pub returns : goal.returns
returns c =
    any_from_yields_List (gives (verb_meant c.args.verb) c.args.name.now c.args.number.now) _ _ c.any.result c.any.ensures.ran
    (YieldsList-from_slice c.args.options.now cc) (λ x b q k. search (rules, tests))
    ∙ given-is (verb_meant c.args.verb) c.args.name.now c.args.number.now c.args.options.now
