use Rattle.join_exec.proofs.Keys.{no_row}
use Rattle.join_exec.proofs.by_key.row_with_key.Goals as goal

pub returns-in-Err-clause-row : goal.returns-in-Err-clause-row
returns-in-Err-clause-row g c =
    no_row (g.R.RowSource.tables c.args.source.now) c.args.table c.args.cells.items _ c.requires.schema c.in-Err.ensures (g.R.RowSource.rows c.args.source.now) c.requires.rows
