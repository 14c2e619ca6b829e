use Rattle.hk_replay.proofs.replaying.replay.Given as goal

-- the steps are counted in the ledger of the blank
abbrev pub ghosts-replay_counted : goal.ghosts-replay_counted
ghosts-replay_counted g a = record { name = a.blank.name; parts = a.blank.parts }
