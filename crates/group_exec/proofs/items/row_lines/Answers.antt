use Rattle.group_exec.specs.Results.{row_line}
use Rattle.group_exec.specs.inner.Made.{seen_line}
use Rattle.row_source.specs.Matches.{pair_cells}
use Rattle.std.proofs.Common.{sym}
use Rattle.group_exec.proofs.Making.{next_made}
use Rattle.group_exec.proofs.items.row_lines.Goals as goal

pub loop-pair-preserved : goal.loop-pair-preserved
loop-pair-preserved c =
    rw c.in_ok-push.ensures.items
    (next_made (row_line c.args.items.now) seen_line pair_cells c.args.pairs.now c.loop-pair.pair-index c.pair-item.result c.loop-pair.lines.items c.in_ok-row_line.field-0 _ c.loop-pair-test.true (sym c.pair-item.is) c.in_ok-row_line.ensures c.loop-pair.invariant)
