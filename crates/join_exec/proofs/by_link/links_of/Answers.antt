use Rattle.join_exec.proofs.Linked.{next_row}
use Rattle.join_exec.proofs.by_link.links_of.Goals as goal

pub loop-row-preserved : goal.loop-row-preserved
loop-row-preserved c = λ at.
    next_row (λ row. row.now) c.args.column at c.args.rows.now c.loop-row.row-index c.row-item.result _ _ _ c.loop-row-test.true c.row-item.is (c.in_ok-add_row.ensures at) (c.loop-row.invariant at)
