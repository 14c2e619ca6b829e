use Rattle.std.proofs.Common.{◌∙◌, ap, option_map}
use Rattle.hk_catalogue.specs.Refusals.{reason_of}
use Rattle.hk_catalogue.proofs.RollSongs.{reasons}
use Rattle.hk_catalogue.proofs.roll.Roll.check_add.Goals as goal

pub returns-in-Some-clause-reason : goal.returns-in-Some-clause-reason
returns-in-Some-clause-reason c rules songs are counts =
    ap (option_map reason_of) c.in-Some.ensures ∙ reasons rules c.args.self.now songs c.args.id c.args.words are counts

pub returns-in-None-clause-reason : goal.returns-in-None-clause-reason
returns-in-None-clause-reason c rules songs are counts =
    ap (option_map reason_of) c.in-None.ensures ∙ reasons rules c.args.self.now songs c.args.id c.args.words are counts
