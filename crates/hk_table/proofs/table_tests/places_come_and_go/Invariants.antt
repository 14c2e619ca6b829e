use Rattle.hk_table.proofs.table_tests.places_come_and_go.Given as goal

abbrev pub ghosts-gives : goal.ghosts-gives
ghosts-gives g a = record { name = a.blank.name; parts = a.blank.parts }

abbrev pub ghosts-gives_none : goal.ghosts-gives_none
ghosts-gives_none g a = record { name = a.blank.name; parts = a.blank.parts }
