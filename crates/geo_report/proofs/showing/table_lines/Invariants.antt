use Rattle.geo_report.proofs.showing.table_lines.Given as goal

-- the ledger of the blank that is handed on
abbrev pub ghosts-lines_counted : goal.ghosts-lines_counted
ghosts-lines_counted a = record { name = a.blank.name; parts = a.blank.parts }
