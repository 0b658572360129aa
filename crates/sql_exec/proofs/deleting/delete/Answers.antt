use Rattle.std.proofs.Common.{Bor, Result, List, [], ◌∷◌, map, sym, subst}
use Rattle.geo_base.specs.Results.{Gives}
use Rattle.geo_base.specs.declared.cell.Cell.{Cell}
use Rattle.geo_base.specs.declared.row_image.RowImage.{RowImage}
use Rattle.row_source.specs.declared.fault.ExecFault.{ExecFault}
use Rattle.row_source.specs.declared.fault.ExecFault.TheVariants as fault
use Rattle.sql_exec.proofs.Removed.{by_plan}
use Rattle.sql_exec.proofs.deleting.delete.Goals as goal
use Rattle.sql_exec.specs.inner.Reaching.{rows_in}
use Rattle.write_set.specs.declared.row_change.RowChange.{RowChange}

abbrev images : List (Bor RowImage) → List (List Cell)
images rows = map (λ row. row.now) rows

pub returns-clause-changes : goal.returns-clause-changes
returns-clause-changes g c =
    let rows = g.R.RowSource.rows c.args.source.now in
    subst (λ (made : Result (List RowChange) ExecFault). Gives fault.NoMemory (λ v. v) c.delete_rows.result made)
    (sym (by_plan c.args.schema.now (g.R.RowSource.base c.args.source.now) c.args.own.now c.args.query.now rows (images c.as_slice.result.now) (rows_in c.in_ok-rows.rows) c.requires.laid c.requires.rows
    (c.tests_drop_what_plans_leave_out.ensures c.args.schema.now (c.args.query.now.table ∷ []) c.args.query.now.tests rows c.requires.rows) c.as_slice.ensures c.in_ok-rows.ensures.rows))
    c.delete_rows.ensures
