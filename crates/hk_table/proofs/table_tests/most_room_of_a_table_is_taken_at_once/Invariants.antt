use Rattle.hk_table.proofs.table_tests.most_room_of_a_table_is_taken_at_once.Given as goal

abbrev pub ghosts-gives_none : goal.ghosts-gives_none
ghosts-gives_none g a = record { name = a.blank.name; parts = a.blank.parts }
