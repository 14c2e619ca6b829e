use Rattle.std.proofs.Common.{◌∙◌, map, ap}
use Rattle.clap.specs.Faults.{is_simple_and_free}
use Rattle.clap.specs.Simple.{is_simple}
use Rattle.hk_setup.proofs.Command.{command_easy, command_free, rows_found, taken, untaken}
use Rattle.hk_setup.proofs.reading.found_by.Goals as goal

pub returns-in-Ok-clause-taken : goal.returns-in-Ok-clause-taken
returns-in-Ok-clause-taken c =
    taken _ (map (λ text. text.now) c.args.words.now) c.requires (c.in-Ok.ensures.kinds (ap is_simple_and_free c.requires ∙ command_free))

pub returns-in-Ok-clause-rows : goal.returns-in-Ok-clause-rows
returns-in-Ok-clause-rows c =
    rows_found _ (map (λ text. text.now) c.args.words.now) _ c.requires (c.in-Ok.ensures.matches (ap is_simple c.requires ∙ command_easy.simple)).0

pub returns-in-Err-clause-usage : goal.returns-in-Err-clause-usage
returns-in-Err-clause-usage c =
    untaken _ (map (λ text. text.now) c.args.words.now) c.refusal_of.result c.requires
    (λ usage taken_too. c.refusal_of.ensures usage (c.kind.ensures ∙ c.in-Err.ensures.passes taken_too))
