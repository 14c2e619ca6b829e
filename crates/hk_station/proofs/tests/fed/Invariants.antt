use Rattle.hk_station.proofs.tests.fed.Given as goal

abbrev pub ghosts-fed_in : goal.ghosts-fed_in
ghosts-fed_in a = record { name = a.blank.name; parts = a.blank.parts }
