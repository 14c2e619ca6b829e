use Rattle.std.proofs.Common.{◌∙◌, sym}
use Rattle.hk_seating.proofs.Facts.{length_seats}
use Rattle.hk_seating.proofs.tests.seated.Goals as goal

pub returns-clause-seated : goal.returns-clause-seated
returns-clause-seated c = (
  _,
  c.seat_all.ensures.seated,
  length_seats _ _ _ (c.in_ok-stations.ensures.count ∙ sym c.in_ok-pairs.ensures.count) (c.in_ok-views.ensures.count ∙ sym c.in_ok-pairs.ensures.count) ∙ c.in_ok-pairs.ensures.count,
)
