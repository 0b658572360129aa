use Rattle.claim_rule.proofs.table.ClaimTable.split.Given as goal

abbrev pub ghosts-split_named : goal.ghosts-split_named
ghosts-split_named a = record { number = a._shares }
