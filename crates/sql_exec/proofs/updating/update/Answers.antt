use Rattle.std.proofs.Common.{Ok}
use Rattle.std.proofs.lemmas.Result.{err_from_is_err_and}
use Rattle.sql_exec.proofs.Updated.{over_all, over_fails}
use Rattle.sql_exec.proofs.updating.update.Goals as goal

pub returns-in_err-changes-clause-changes : goal.returns-in_err-changes-clause-changes
returns-in_err-changes-clause-changes g c =
    let p = err_from_is_err_and c.from_residual.result c.from_residual.ensures.1 in
    rw (p.1, p.2)
    (over_fails c.args.schema.now c.args.query.now (g.R.RowSource.base c.args.source.now) c.args.own.now (g.R.RowSource.rows c.args.source.now) c.in_err-changes.field-0.0 c.requires.laid
    c.in_err-changes.ensures.changes)

pub returns-clause-changes : goal.returns-clause-changes
returns-clause-changes g c =
    rw c.new.ensures
    (over_all c.args.schema.now c.args.query.now (g.R.RowSource.base c.args.source.now) c.args.own.now (g.R.RowSource.rows c.args.source.now) (Ok c.in_ok-changes.changes.items) c.requires.laid
    c.in_ok-changes.ensures.changes)
