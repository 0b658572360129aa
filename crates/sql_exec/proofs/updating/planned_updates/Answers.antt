use Rattle.std.proofs.Common.{All, List, [], ◌∷◌, Result, map, sym, subst}
use Rattle.geo_base.specs.Results.{Gives}
use Rattle.geo_base.specs.declared.cell.Cell.{Cell}
use Rattle.geo_schema.specs.Rows.{IsRow}
use Rattle.geo_schema.specs.Schemas.{table_at}
use Rattle.row_source.specs.declared.fault.ExecFault.{ExecFault}
use Rattle.row_source.specs.declared.fault.ExecFault.TheVariants as fault
use Rattle.sql_exec.proofs.Updated.{by_plan}
use Rattle.sql_exec.proofs.updating.planned_updates.Goals as goal
use Rattle.sql_exec.specs.inner.Reaching.{rows_in}
use Rattle.sql_plan.specs.Plans.{plan_of}
use Rattle.write_set.specs.declared.row_change.RowChange.{RowChange}

pub update_rows-requires-clause-rows : goal.update_rows-requires-clause-rows
update_rows-requires-clause-rows g c =
    subst (All (IsRow (table_at c.args.schema.now c.args.query.now.table))) (sym c.as_slice.ensures) c.in_ok-rows.ensures.fit

pub returns-clause-changes : goal.returns-clause-changes
returns-clause-changes g c =
    let tables = c.args.schema.now in
    let update = c.args.query.now in
    let base = g.R.RowSource.base c.args.source.now in
    let rows = g.R.RowSource.rows c.args.source.now in
    let handed : List (List Cell) = map (λ row. row.now) c.as_slice.result.now in
    subst (λ (made : Result (List RowChange) ExecFault). Gives fault.NoMemory (λ v. v.items) c.update_rows.result made)
    (by_plan tables update base (plan_of tables (update.table ∷ []) update.tests) rows handed (rows_in c.in_ok-rows.rows) c.requires.rows
    (c.tests_drop_what_plans_leave_out.ensures tables (update.table ∷ []) update.tests rows c.requires.rows) c.as_slice.ensures c.in_ok-rows.ensures.rows)
    c.update_rows.ensures
