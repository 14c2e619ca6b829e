use Rattle.std.proofs.Common.{length}
use Rattle.hk_table.proofs.table_tests.gives.Given as goal

abbrev pub decreases-loop-place : goal.decreases-loop-place
decreases-loop-place g l = length l.walk.places
