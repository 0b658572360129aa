use Rattle.std.proofs.lemmas.Result.{err_from_is_err_and}
use Rattle.set_codec.proofs.Cells.{cell_read, cell_fails}
use Rattle.set_codec.proofs.row_reading.read_any_cell.Goals as goal

pub returns-in_err-read_cell-clause-exact : goal.returns-in_err-read_cell-clause-exact
returns-in_err-read_cell-clause-exact c =
    let p = err_from_is_err_and c.from_residual.result c.from_residual.ensures.1 in
    rw (p.1, p.2) (cell_fails c.args.bytes.now c.args.at c.in_err-read_cell.field-0.0 c.in_err-read_cell.ensures.fault)

pub returns-clause-exact : goal.returns-clause-exact
returns-clause-exact c = cell_read c.args.bytes.now c.args.at _ c.in_ok-read_cell.ensures.found
