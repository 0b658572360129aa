use Rattle.group_exec.specs.Groups.{with_arguments}
use Rattle.group_exec.specs.inner.Made.{seen_row}
use Rattle.row_source.specs.Matches.{pair_cells}
use Rattle.std.proofs.Common.{sym}
use Rattle.group_exec.proofs.Making.{next_made}
use Rattle.group_exec.proofs.arguments.all_with_arguments.Goals as goal

pub loop-pair-preserved : goal.loop-pair-preserved
loop-pair-preserved c =
    rw c.in_ok-push.ensures.items
    (next_made (with_arguments c.args.items.now) seen_row pair_cells c.args.pairs.now c.loop-pair.pair-index c.pair-item.result c.loop-pair.rows.items c.in_ok-with_arguments.field-0 _ c.loop-pair-test.true (sym c.pair-item.is) c.in_ok-with_arguments.ensures c.loop-pair.invariant)
