use Rattle.hk_catalogue.proofs.catalogue_tests.songs_are_found_in_their_slots.Given as goal

abbrev pub ghosts-is_song : goal.ghosts-is_song
ghosts-is_song g a = record { name = a.blank.name; parts = a.blank.parts }
