use Rattle.std.proofs.Common.{subst}
use Rattle.geo_base.specs.Results.{Gives}
use Rattle.join_exec.proofs.Kept.{Answer}
use Rattle.join_exec.proofs.Planned.{beside_shown}
use Rattle.row_source.specs.declared.fault.ExecFault.TheVariants as exec
use Rattle.join_exec.proofs.joining.join_two.Goals as goal

pub returns-clause-pairs : goal.returns-clause-pairs
returns-clause-pairs g c =
    subst (λ (meant : Answer). Gives exec.NoMemory (λ _. c.join_right.new.kept.items) c.join_right.result meant)
    (beside_shown (g.R.RowSource.tables c.args.source.now) c.args.right (g.R.RowSource.rows c.args.source.now) c.args.tests.now c.args.kept.now.items
    _ _ _ c.in-Some.second _ c.as_slice.ensures.value c.in_ok-lefts.ensures.rows c.in-Some.is)
    c.join_right.ensures.pairs
