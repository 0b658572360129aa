use Rattle.std.proofs.Common.{◌<◌, Bor, Result, List, [], ◌∷◌, get_or, length, map, sym, subst}
use Rattle.geo_base.specs.Results.{Gives}
use Rattle.geo_base.specs.declared.cell.Cell.{Cell}
use Rattle.geo_base.specs.declared.row_image.RowImage.{RowImage}
use Rattle.row_source.specs.declared.fault.ExecFault.{ExecFault}
use Rattle.row_source.specs.declared.fault.ExecFault.TheVariants as fault
use Rattle.sql_exec.proofs.Locks.{by_plan, of_one, one_table, same_steps}
use Rattle.sql_exec.proofs.for_update.lock.Goals as goal
use Rattle.sql_exec.specs.inner.Reaching.{rows_in}
use Rattle.write_set.specs.declared.row_change.RowChange.{RowChange}

abbrev Made : Type 0
Made = Result (List (List Cell) × List RowChange) ExecFault

abbrev images : List (Bor RowImage) → List (List Cell)
images rows = map (λ row. row.now) rows

pub chosen_rows-requires-clause-shown : goal.chosen_rows-requires-clause-shown
chosen_rows-requires-clause-shown g c =
    of_one (λ table. table < length c.args.schema.now.shown) c.args.query.now.tables (get_or c.items.result.now 0 0)
    (one_table c.args.query.now.tables c.items.result.now c.items.ensures c.requires.query.one) c.requires.query.sound.shown

pub lock_rows-requires-clause-plain : goal.lock_rows-requires-clause-plain
lock_rows-requires-clause-plain g c = (c.requires.query.sound.not_grouped c.requires.query.not_grouped).1

pub returns-in_err-rows-clause-steps : goal.returns-in_err-rows-clause-steps
returns-in_err-rows-clause-steps g c =
    same_steps c.args.schema.now c.args.query.now.tables (get_or c.items.result.now 0 0) c.args.query.now.tests (g.R.RowSource.rows c.args.source.now) _ _
    (one_table c.args.query.now.tables c.items.result.now c.items.ensures c.requires.query.one) c.in_err-rows.ensures.steps

pub returns-clause-steps : goal.returns-clause-steps
returns-clause-steps g c =
    same_steps c.args.schema.now c.args.query.now.tables (get_or c.items.result.now 0 0) c.args.query.now.tests (g.R.RowSource.rows c.args.source.now) _ _
    (one_table c.args.query.now.tables c.items.result.now c.items.ensures c.requires.query.one) c.in_ok-rows.ensures.steps

pub returns-clause-locked : goal.returns-clause-locked
returns-clause-locked g c =
    let rows = g.R.RowSource.rows c.args.source.now in
    subst (λ (made : Made). Gives fault.NoMemory (λ l. (l.lines, l.touches)) c.lock_rows.result made)
    (sym (by_plan c.args.schema.now (g.R.RowSource.base c.args.source.now) c.args.own.now c.args.query.now (get_or c.items.result.now 0 0) rows (images c.as_slice.result.now) (rows_in c.in_ok-rows.rows)
    c.requires.laid c.requires.rows (one_table c.args.query.now.tables c.items.result.now c.items.ensures c.requires.query.one) c.requires.query.not_grouped c.requires.unordered
    (c.tests_drop_what_plans_leave_out.ensures c.args.schema.now (get_or c.items.result.now 0 0 ∷ []) c.args.query.now.tests rows c.requires.rows) c.as_slice.ensures c.in_ok-rows.ensures.rows))
    c.lock_rows.ensures
