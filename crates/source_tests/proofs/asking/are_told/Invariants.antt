use Rattle.source_tests.proofs.asking.are_told.Given as goal

-- the ledger of the blank that is handed on
abbrev pub ghosts-are_told_on : goal.ghosts-are_told_on
ghosts-are_told_on a = record { name = a.blank.name; parts = a.blank.parts }
