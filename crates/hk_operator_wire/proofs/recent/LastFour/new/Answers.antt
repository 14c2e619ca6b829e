use Rattle.std.proofs.Common.{[], ◌∷◌, refl}
use Rattle.hk_operator_wire.proofs.recent.LastFour.new.Goals as goal

pub returns : goal.returns
returns c = record {
  before = 0 ∷ 0 ∷ 0 ∷ 0 ∷ [];
  four = refl;
  is = refl;
}
