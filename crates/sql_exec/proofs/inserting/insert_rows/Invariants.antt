-- the rows so far are done and their names are noted, and the others are to be done
use Rattle.std.proofs.Common.{◌≡◌, drop}
use Rattle.sql_bind.specs.Steps.{each_behind}
use Rattle.sql_exec.specs.Effects.{insert_changes, insert_one}
use Rattle.sql_exec.specs.inner.Inserting.{AreNamesOf}
use Rattle.sql_exec.proofs.inserting.insert_rows.Given as goal

abbrev pub invariant-loop-row : goal.invariant-loop-row
invariant-loop-row g l =
    record {
      names : AreNamesOf l.changes.items l.names.keys;
      so_far :
          each_behind (insert_one l.schema l.query (g.R.RowSource.base l.source) l.own) l.changes.items (drop l.row-index l.query.rows)
          ≡ insert_changes l.schema l.query (g.R.RowSource.base l.source) l.own;
    }
