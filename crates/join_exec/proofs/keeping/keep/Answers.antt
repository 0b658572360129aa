use Rattle.std.specs.Option.{option_copied}
use Rattle.std.proofs.lemmas.Result.{err_from_is_err_and}
use Rattle.join_exec.proofs.Kept.{one_dropped, one_fault, one_kept}
use Rattle.join_exec.proofs.keeping.keep.Goals as goal

pub returns-in_err-passes : goal.returns-in_err-passes
returns-in_err-passes c =
    let p = err_from_is_err_and c.from_residual.result c.from_residual.ensures.1 in
    rw (p.1, p.2)
    (one_fault c.args.tests.now c.args.kept.now.items c.args.left.now (option_copied c.args.right) c.cells.result.now c.right_cells.result.now c.cells.ensures.value c.right_cells.ensures _ c.in_err-passes.ensures)

pub returns-then-not-branch : goal.returns-then-not-branch
returns-then-not-branch c =
    one_dropped c.args.tests.now c.args.kept.now.items c.args.left.now (option_copied c.args.right) c.cells.result.now c.right_cells.result.now c.cells.ensures.value c.right_cells.ensures _
    c.in_ok-passes.ensures c.if-not-branch.true

pub returns : goal.returns
returns c =
    one_kept c.args.tests.now c.args.kept.now.items c.args.left.now (option_copied c.args.right) c.cells.result.now c.right_cells.result.now c.cells.ensures.value c.right_cells.ensures _ _ _
    c.in_ok-passes.ensures c.if-not-branch.false c.in_ok-pair_of.ensures c.in_ok-push.ensures.items
