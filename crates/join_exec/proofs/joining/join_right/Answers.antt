use Rattle.std.proofs.Common.{ap, subst}
use Rattle.geo_base.specs.Results.{Gives}
use Rattle.join_exec.proofs.Kept.{Answer}
use Rattle.join_exec.proofs.Linked.{all_by_link}
use Rattle.join_exec.specs.inner.Kept.{kept_behind}
use Rattle.row_source.specs.declared.fault.ExecFault.TheVariants as exec
use Rattle.join_exec.proofs.joining.join_right.Goals as goal

pub returns-in_ok-rights-in-Hashed-clause-pairs : goal.returns-in_ok-rights-in-Hashed-clause-pairs
returns-in_ok-rights-in-Hashed-clause-pairs g c =
    subst (λ (meant : Answer). Gives exec.NoMemory (λ _. c.keep_by_link.new.kept.items) c.keep_by_link.result meant)
    (ap (kept_behind c.args.tests.now c.args.kept.now.items)
    (all_by_link (g.R.RowSource.tables c.args.source.now) c.args.table c.args.second.now.access c.args.second.now.join (g.R.RowSource.rows c.args.source.now) c.in-Hashed.left c.in-Hashed.right
    c.as_slice-in-Hashed.result.now _ _ c.in-Hashed.is c.as_slice-in-Hashed.ensures.value c.in_ok-rights-in-Hashed.ensures.rows))
    c.keep_by_link.ensures
