use Rattle.claim_rule.proofs.table.ClaimTable.settle.Given as goal

abbrev pub ghosts-settle_named : goal.ghosts-settle_named
ghosts-settle_named a = record { number = a._workers }
