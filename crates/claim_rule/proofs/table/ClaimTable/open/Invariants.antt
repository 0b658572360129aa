use Rattle.claim_rule.proofs.table.ClaimTable.open.Given as goal

abbrev pub ghosts-open_named : goal.ghosts-open_named
ghosts-open_named g a = record { plan = g.P.ClaimPlan.plan; shares = a._workers }
