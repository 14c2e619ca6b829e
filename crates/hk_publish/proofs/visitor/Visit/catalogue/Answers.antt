use Rattle.std.proofs.Common.{◌∙◌, ap, length}
use Rattle.hk_spec_matching.specs.Catalogue.{version}
use Rattle.hk_publish.specs.Known.{Known}
use Rattle.hk_publish.proofs.Looking.{found_songs}
use Rattle.hk_publish.proofs.visitor.Visit.catalogue.Goals as goal

pub returns-clause-songs : goal.returns-clause-songs
returns-clause-songs c =
    c.catalogue.ensures.songs ∙ ap (λ e. e.songs) c.get.ensures ∙ found_songs _ _ c.self.invariant
    ∙ ap (λ (k : Known). version k.limits k.seen (length k.seen)) c.self.view_is
