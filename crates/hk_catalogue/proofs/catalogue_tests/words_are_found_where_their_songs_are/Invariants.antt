use Rattle.hk_catalogue.proofs.catalogue_tests.words_are_found_where_their_songs_are.Given as goal

abbrev pub ghosts-places_in : goal.ghosts-places_in
ghosts-places_in g a = record { name = a.blank.name; parts = a.blank.parts }
