use Rattle.claim_rule.proofs.table.ClaimTable.done.Given as goal

abbrev pub ghosts-done_named : goal.ghosts-done_named
ghosts-done_named a = record { number = a._workers }
