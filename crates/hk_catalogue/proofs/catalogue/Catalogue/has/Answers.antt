use Rattle.std.proofs.Common.{◌∙◌}
use Rattle.hk_catalogue.proofs.Kept.{has_in_view}
use Rattle.hk_catalogue.proofs.catalogue.Catalogue.has.Goals as goal

pub returns : goal.returns
returns c = c.has_id.ensures ∙ has_in_view c.self.inside c.args.self.now c.as_slice.result.now c.args.id c.self.view_is c.as_slice.ensures.value
