-- the rows so far are done, and the others are to be
use Rattle.std.proofs.Common.{◌≡◌, [], drop, map}
use Rattle.sql_exec.specs.inner.Updating.{update_row, updates_behind}
use Rattle.sql_exec.proofs.updating.update_rows.Given as goal

abbrev pub invariant-loop-row : goal.invariant-loop-row
invariant-loop-row g l =
    updates_behind l.query.tests (update_row l.schema l.query (g.R.RowSource.base l.source)) l.changes.items (map (λ row. row.now) (drop l.row-index l.rows))
    ≡ updates_behind l.query.tests (update_row l.schema l.query (g.R.RowSource.base l.source)) [] (map (λ row. row.now) l.rows)
