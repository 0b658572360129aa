use Rattle.std.proofs.Common.{Bor, inr}
use Rattle.std.proofs.lemmas.Result.{err_from_is_err_and}
use Rattle.geo_base.specs.declared.row_image.RowImage.{RowImage}
use Rattle.sql_exec.proofs.Kept.{all_kept, one_dropped, one_fault, one_kept}
use Rattle.sql_exec.proofs.keeping.kept_rows.Goals as goal
use Rattle.sql_exec.proofs.keeping.kept_rows.Goals.{then-branch+in_ok-push, else-branch}

pub returns-in_err-is_kept : goal.returns-in_err-is_kept
returns-in_err-is_kept c =
    let p = err_from_is_err_and c.from_residual.result c.from_residual.ensures.1 in
    rw (p.1, p.2)
    (inr (one_fault (λ (row : Bor RowImage). row.now) c.args.tests.now c.args.rows.now c.loop-row.kept.items c.loop-row.row-index c.row-item.result c.cells.result.now _
    c.loop-row-test.true c.row-item.is c.loop-row.invariant c.cells.ensures.value c.in_err-is_kept.ensures))

pub loop-row-preserved : goal.loop-row-preserved
loop-row-preserved c =
    elim c.if-branch.branch [
      | then-branch+in_ok-push w ↦
          one_kept (λ (row : Bor RowImage). row.now) c.args.tests.now c.args.rows.now c.loop-row.kept.items _ c.loop-row.row-index c.row-item.result c.cells.result.now _
          c.loop-row-test.true c.row-item.is c.loop-row.invariant c.cells.ensures.value c.in_ok-is_kept.ensures w.if-branch.true (cc (w.kept-is, w.in_ok-push.ensures.items))
      | else-branch w ↦
          one_dropped (λ (row : Bor RowImage). row.now) c.args.tests.now c.args.rows.now c.loop-row.kept.items _ c.loop-row.row-index c.row-item.result c.cells.result.now _
          c.loop-row-test.true c.row-item.is c.loop-row.invariant c.cells.ensures.value c.in_ok-is_kept.ensures w.if-branch.false (cc (w.kept-is))
    ]

pub returns : goal.returns
returns c = all_kept (λ (row : Bor RowImage). row.now) c.args.tests.now c.args.rows.now c.loop-row.kept.items c.loop-row.row-index c.loop-row-test.false c.loop-row.invariant
