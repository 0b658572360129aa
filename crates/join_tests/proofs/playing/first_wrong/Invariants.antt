use Rattle.join_tests.proofs.playing.first_wrong.Given as goal

-- the ledger of the blank that is handed on
abbrev pub ghosts-first_wrong_on : goal.ghosts-first_wrong_on
ghosts-first_wrong_on a = record { name = a.blank.name; parts = a.blank.parts }
