use Rattle.claim_rule.proofs.table.ClaimTable.finish.Given as goal

abbrev pub ghosts-finish_named : goal.ghosts-finish_named
ghosts-finish_named a = record { number = a._piece }
