use Rattle.std.proofs.Common.{◌≡◌, ◌+◌, ◌≤◌, length, map, IfOk, subst}
use Rattle.row_source.specs.Sources.{images}
use Rattle.join_exec.proofs.Reached.{all_rows}
use Rattle.join_exec.proofs.reaching.whole.Goals as goal
use Rattle.write_set.specs.Overlay.{Table}

pub returns-clause-rows : goal.returns-clause-rows
returns-clause-rows g c =
    subst (λ (rows : Table). IfOk c.by_key.result (λ found. map (λ image. image.now) found.items ≡ images rows))
    (all_rows c.args.table (g.R.RowSource.rows c.args.source.now)) c.by_key.ensures.rows

pub returns-clause-steps : goal.returns-clause-steps
returns-clause-steps g c =
    subst (λ (rows : Table). c.by_key.new.steps ≤ c.args.steps.now + length rows)
    (all_rows c.args.table (g.R.RowSource.rows c.args.source.now)) c.by_key.ensures.steps
