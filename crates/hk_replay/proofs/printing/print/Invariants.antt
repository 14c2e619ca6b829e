use Rattle.hk_replay.proofs.printing.print.Given as goal

-- the steps are counted in the ledger of the blank
abbrev pub ghosts-print_counted : goal.ghosts-print_counted
ghosts-print_counted g a = record { name = a.blank.name; parts = a.blank.parts }
