-- the rows so far are bound
use Rattle.std.proofs.Common.{◌≡◌, drop}
use Rattle.sql_bind.specs.Inserts.{row_of}
use Rattle.sql_bind.specs.Steps.{each, each_behind}
use Rattle.sql_bind.proofs.insert.typed_rows.Given as goal

abbrev pub invariant-loop-row : goal.invariant-loop-row
invariant-loop-row l =
    each_behind (λ _. row_of l.schema l.scope l.types) l.bound.items (drop l.row-index l.rows) ≡ each (row_of l.schema l.scope l.types) l.rows
