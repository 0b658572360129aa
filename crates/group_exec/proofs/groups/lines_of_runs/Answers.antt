use Rattle.std.proofs.lemmas.Result.{err_from_is_err_and}
use Rattle.group_exec.proofs.Running.{run_made, run_refused}
use Rattle.group_exec.proofs.groups.lines_of_runs.Goals as goal

pub returns-in_err-group_line : goal.returns-in_err-group_line
returns-in_err-group_line c =
    let p = err_from_is_err_and c.from_residual.result c.from_residual.ensures.1 in
    rw (p.1, p.2)
    (run_refused c.args.items.now c.run_from-run.result.now _ _ c.loop-start.lines.items c.in_err-group_line.field-0.0 _ c.run_from-run.ensures.run c.in_err-group_line.ensures c.loop-start.invariant.1)

pub loop-start-preserved : goal.loop-start-preserved
loop-start-preserved c = (
  c.run_from-run.ensures.within,
  (rw c.in_ok-push.ensures.items
      (run_made c.args.items.now c.run_from-run.result.now _ _ c.loop-start.lines.items c.in_ok-group_line.field-0 _ c.run_from-run.ensures.run c.in_ok-group_line.ensures c.loop-start.invariant.1)),
)
