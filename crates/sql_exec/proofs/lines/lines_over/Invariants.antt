-- the lines so far, and behind them those of the rows that are left, are all lines
use Rattle.std.proofs.Common.{◌≡◌, [], drop, map}
use Rattle.sql_bind.specs.Steps.{each_behind}
use Rattle.sql_exec.specs.inner.Plain.{line_over}
use Rattle.sql_exec.proofs.lines.lines_over.Given as goal

abbrev pub invariant-loop-row : goal.invariant-loop-row
invariant-loop-row l =
    each_behind (λ _. line_over l.items) l.lines.items (map (λ row. row.now) (drop l.row-index l.rows)) ≡ each_behind (λ _. line_over l.items) [] (map (λ row. row.now) l.rows)
