use Rattle.std.proofs.Common.{◌∙◌, sym}
use Rattle.hk_catalogue.proofs.RollSongs.{there}
use Rattle.hk_catalogue.proofs.roll.Roll.check_withdraw.Goals as goal

pub returns-then-has-clause-songs : goal.returns-then-has-clause-songs
returns-then-has-clause-songs c songs counts = sym c.if-has.true ∙ c.has.ensures ∙ there c.args.self.now songs c.args.id counts

pub returns-else-has-clause-songs : goal.returns-else-has-clause-songs
returns-else-has-clause-songs c songs counts = sym c.if-has.false ∙ c.has.ensures ∙ there c.args.self.now songs c.args.id counts
