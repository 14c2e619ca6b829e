use Rattle.std.proofs.Common.{◌∙◌, ap}
use Rattle.std.specs.Option.{option_map_or}
use Rattle.std.proofs.lemmas.Result.{IfOk-weaker}
use Rattle.clap.specs.Matches.{found_of}
use Rattle.clap.proofs.WalkLemmas.{first_value-rows}
use Rattle.hk_setup.proofs.reading.text_found.Goals as goal

pub returns-in-Some : goal.returns-in-Some
returns-in-Some c =
    IfOk-weaker c.from_str.result _ _ (λ s h. h ∙ ap (λ o. option_map_or (λ text. text) o c.args.default.now)
    (c.in-Some.ensures ∙ first_value-rows (found_of c.args.found.now) c.args.name.now)) c.from_str.ensures.ok

pub returns-in-None : goal.returns-in-None
returns-in-None c =
    IfOk-weaker c.from_str-in-None.result _ _ (λ s h. h ∙ ap (λ o. option_map_or (λ text. text) o c.args.default.now)
    (c.in-None.ensures ∙ first_value-rows (found_of c.args.found.now) c.args.name.now)) c.from_str-in-None.ensures.ok
