use Rattle.std.proofs.Common.{◌≡◌, vec_len}
use Rattle.hk_table.proofs.table_tests.words_of_one_bucket_are_told_apart.Given as goal

abbrev pub ghosts-gives : goal.ghosts-gives
ghosts-gives g a = record { name = a.blank.name; parts = a.blank.parts }

abbrev pub ghosts-gives_none : goal.ghosts-gives_none
ghosts-gives_none g a = record { name = a.blank.name; parts = a.blank.parts }

abbrev pub invariant-loop-pos : goal.invariant-loop-pos
invariant-loop-pos g l = vec_len l.mixed ≡ 256
