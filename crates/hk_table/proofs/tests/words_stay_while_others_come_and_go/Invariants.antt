use Rattle.hk_table.proofs.tests.words_stay_while_others_come_and_go.Given as goal

abbrev pub ghosts-holds : goal.ghosts-holds
ghosts-holds g a = record { name = a.blank.name; parts = a.blank.parts }
