use Rattle.hk_catalogue.proofs.catalogue_tests.slots_and_words_are_used_again.Given as goal

abbrev pub ghosts-is_song : goal.ghosts-is_song
ghosts-is_song g a = record { name = a.blank.name; parts = a.blank.parts }
