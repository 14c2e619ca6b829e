use Rattle.std.proofs.Common.{length}
use Rattle.hk_catalogue.proofs.catalogue_tests.places_in.Given as goal

abbrev pub decreases-loop-place : goal.decreases-loop-place
decreases-loop-place g l = length l.walk.places
