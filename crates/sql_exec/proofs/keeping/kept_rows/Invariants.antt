-- the rows so far, and behind them those that the tests keep, are those that they keep of all
use Rattle.std.proofs.Common.{◌≡◌, drop, map}
use Rattle.sql_exec.specs.inner.Plain.{kept_behind, kept_rows}
use Rattle.sql_exec.proofs.keeping.kept_rows.Given as goal

abbrev pub invariant-loop-row : goal.invariant-loop-row
invariant-loop-row l =
    kept_behind l.tests (map (λ row. row.now) l.kept.items) (map (λ row. row.now) (drop l.row-index l.rows)) ≡ kept_rows l.tests (map (λ row. row.now) l.rows)
