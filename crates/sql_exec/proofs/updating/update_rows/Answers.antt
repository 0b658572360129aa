use Rattle.std.proofs.Common.{Bor, List, Result, Ok, Err, Bool, ◌≡◌, inr, subst}
use Rattle.std.proofs.lemmas.Result.{err_from_is_err_and}
use Rattle.geo_base.specs.declared.row_image.RowImage.{RowImage}
use Rattle.geo_schema.specs.Rows.{IsRow}
use Rattle.geo_schema.specs.Schemas.{table_at}
use Rattle.row_source.specs.Matches.{in_statement}
use Rattle.row_source.specs.declared.fault.ExecFault.{ExecFault}
use Rattle.sql_exec.proofs.Touched.{row_is}
use Rattle.sql_exec.proofs.Updated.{all_changed, change_fails, one_changed, one_unchanged, test_fault}
use Rattle.sql_exec.proofs.updating.update_rows.Goals as goal
use Rattle.sql_exec.proofs.updating.update_rows.Goals.{then-branch+in_ok-change+in_ok-push, else-branch}
use Rattle.sql_exec.specs.inner.Updating.{update_row}
use Rattle.sql_expr.specs.Conditions.{kept}
use Rattle.sql_expr.specs.declared.expr.Expr.{Expr}

pub returns-in_err-is_kept : goal.returns-in_err-is_kept
returns-in_err-is_kept g c =
    let p = err_from_is_err_and c.from_residual.result c.from_residual.ensures.1 in
    rw (p.1, p.2)
    (inr (test_fault (λ (row : Bor RowImage). row.now) c.args.query.now.tests (update_row c.args.schema.now c.args.query.now (g.R.RowSource.base c.args.source.now)) c.args.rows.now
    c.loop-row.changes.items c.loop-row.row-index c.row-item.result _ c.cells.result.now _ c.loop-row-test.true c.row-item.is c.loop-row.invariant c.cells.ensures.value
    (subst (λ (tests : List Expr). (let r : Result Bool ExecFault = in_statement (kept c.cells.result.now tests) in r) ≡ Err c.in_err-is_kept.field-0.0) c.items.ensures c.in_err-is_kept.ensures)))

pub update_row-requires-clause-row : goal.update_row-requires-clause-row
update_row-requires-clause-row g c =
    row_is (λ (row : Bor RowImage). row.now) (IsRow (table_at c.args.schema.now c.args.query.now.table)) c.args.rows.now c.loop-row.row-index c.row-item.result
    c.loop-row-test.true c.row-item.is c.requires.rows

pub returns-in_err-change : goal.returns-in_err-change
returns-in_err-change g c =
    let p = err_from_is_err_and c.from_residual-in_err-change.result c.from_residual-in_err-change.ensures.1 in
    rw (p.1, p.2)
    (change_fails (λ (row : Bor RowImage). row.now) c.args.query.now.tests (update_row c.args.schema.now c.args.query.now (g.R.RowSource.base c.args.source.now)) c.args.rows.now
    c.loop-row.changes.items c.loop-row.row-index c.row-item.result _ c.cells.result.now c.in_ok-is_kept.field-0 _ c.loop-row-test.true c.row-item.is c.loop-row.invariant c.cells.ensures.value
    (subst (λ (tests : List Expr). (let r : Result Bool ExecFault = in_statement (kept c.cells.result.now tests) in r) ≡ Ok c.in_ok-is_kept.field-0) c.items.ensures c.in_ok-is_kept.ensures)
    c.if-branch.true c.in_err-change.ensures)

pub loop-row-preserved : goal.loop-row-preserved
loop-row-preserved g c =
    let test : in_statement (kept c.cells.result.now c.args.query.now.tests) ≡ Ok c.in_ok-is_kept.field-0 =
    subst (λ (tests : List Expr). (let r : Result Bool ExecFault = in_statement (kept c.cells.result.now tests) in r) ≡ Ok c.in_ok-is_kept.field-0) c.items.ensures c.in_ok-is_kept.ensures in
    elim c.if-branch.branch [
      | then-branch+in_ok-change+in_ok-push w ↦
          one_changed (λ (row : Bor RowImage). row.now) c.args.query.now.tests (update_row c.args.schema.now c.args.query.now (g.R.RowSource.base c.args.source.now)) c.args.rows.now
          c.loop-row.changes.items _ c.loop-row.row-index c.row-item.result _ c.cells.result.now c.in_ok-is_kept.field-0 w.in_ok-change.change c.loop-row-test.true c.row-item.is c.loop-row.invariant
          c.cells.ensures.value test w.if-branch.true w.in_ok-change.ensures (cc (w.changes-is, w.in_ok-push.ensures.items))
      | else-branch w ↦
          one_unchanged (λ (row : Bor RowImage). row.now) c.args.query.now.tests (update_row c.args.schema.now c.args.query.now (g.R.RowSource.base c.args.source.now)) c.args.rows.now
          c.loop-row.changes.items _ c.loop-row.row-index c.row-item.result _ c.cells.result.now c.in_ok-is_kept.field-0 c.loop-row-test.true c.row-item.is c.loop-row.invariant
          c.cells.ensures.value test w.if-branch.false (cc (w.changes-is))
    ]

pub returns : goal.returns
returns g c =
    all_changed (λ (row : Bor RowImage). row.now) c.args.query.now.tests (update_row c.args.schema.now c.args.query.now (g.R.RowSource.base c.args.source.now)) c.args.rows.now
    c.loop-row.changes.items c.loop-row.row-index c.loop-row-test.false c.loop-row.invariant
