use Rattle.std.proofs.Common.{◌∙◌, ap, unwrap_or}
use Rattle.hk_words.specs.Options.{word_texts}
use Rattle.hk_words.proofs.Pairs.{given_found, given_missing}
use Rattle.hk_words.proofs.options.given_or.Goals as goal

pub returns-in-Some : goal.returns-in-Some
returns-in-Some c =
    c.unwrap_or.ensures ∙ ap (λ o. unwrap_or o 0) c.read_number.ensures
    ∙ given_found (word_texts c.args.words.now) c.args.name.now c.args.number c.in-Some.given.now c.in-Some.ensures

pub returns-in-None : goal.returns-in-None
returns-in-None c = given_missing (word_texts c.args.words.now) c.args.name.now c.args.number c.in-None.ensures
