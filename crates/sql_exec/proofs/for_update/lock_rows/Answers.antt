use Rattle.std.proofs.Common.{◌≡◌, Bor, List, map, sym, subst}
use Rattle.std.specs.List.{All}
use Rattle.std.proofs.lemmas.Result.{err_from_is_err_and}
use Rattle.geo_base.specs.declared.cell.Cell.{Cell}
use Rattle.geo_base.specs.declared.row_image.RowImage.{RowImage}
use Rattle.geo_schema.specs.Rows.{IsRow}
use Rattle.geo_schema.specs.Schemas.{table_at}
use Rattle.sql_exec.proofs.Handed.{rows_kept}
use Rattle.sql_exec.proofs.Locks as locks
use Rattle.sql_exec.proofs.Shown.{kept, kept_fails, lines, lines_fail, touches}
use Rattle.sql_exec.proofs.for_update.lock_rows.Goals as goal
use Rattle.sql_exec.specs.inner.Naming.{name_in}
use Rattle.sql_exec.specs.inner.Touching.{touches_by}
use Rattle.write_set.specs.declared.row_change.RowChange.{RowChange}

abbrev image : Bor RowImage → List Cell
image row = row.now

abbrev images : List (Bor RowImage) → List (List Cell)
images rows = map image rows

pub returns-in_err-kept : goal.returns-in_err-kept
returns-in_err-kept g c =
    let p = err_from_is_err_and c.from_residual.result c.from_residual.ensures.1 in
    rw (p.1, p.2)
    (locks.kept_fails c.args.schema.now (g.R.RowSource.base c.args.source.now) c.args.own.now c.args.query.now c.args.table (images c.args.rows.now) _
    (kept_fails _ _ c.items.ensures c.in_err-kept.ensures))

pub returns-in_err-lines : goal.returns-in_err-lines
returns-in_err-lines g c =
    let p = err_from_is_err_and c.from_residual-in_err-lines.result c.from_residual-in_err-lines.ensures.1 in
    rw (p.1, p.2)
    (locks.line_fails c.args.schema.now (g.R.RowSource.base c.args.source.now) c.args.own.now c.args.query.now c.args.table (images c.args.rows.now) (images c.in_ok-kept.kept.items) _
    (kept _ _ c.items.ensures c.in_ok-kept.ensures) (lines_fail image _ _ c.items-2.ensures c.as_slice.ensures.value c.in_err-lines.ensures))

pub touches_of-requires-clause-rows : goal.touches_of-requires-clause-rows
touches_of-requires-clause-rows g c =
    subst (λ (shown : List (Bor RowImage)). All (IsRow (table_at c.args.schema.now c.args.table)) (images shown)) (sym c.as_slice-2.ensures.value)
    (rows_kept c.args.schema.now c.args.table c.args.query.now.tests (images c.args.rows.now) (images c.in_ok-kept.kept.items) (kept _ _ c.items.ensures c.in_ok-kept.ensures) c.requires.rows)

pub returns : goal.returns
returns g c =
    locks.all_made c.args.schema.now (g.R.RowSource.base c.args.source.now) c.args.own.now c.args.query.now c.args.table (images c.args.rows.now) (images c.in_ok-kept.kept.items) c.in_ok-lines.lines
    c.new.result (kept _ _ c.items.ensures c.in_ok-kept.ensures) (lines image _ _ c.items-2.ensures c.as_slice.ensures.value c.in_ok-lines.ensures)
    (touches image _ _ _ c.as_slice-2.ensures.value
    (subst (λ (made : List RowChange). made ≡ touches_by (g.R.RowSource.base c.args.source.now) c.args.own.now (map (name_in c.args.schema.now c.args.table) (images c.as_slice-2.result.now)))
    (sym c.new.ensures) c.in_ok-touches.ensures))
