use Rattle.rows_kit.proofs.Overlaid.{all_laid, next_laid}
use Rattle.rows_kit.proofs.laying.make_all.Goals as goal

pub loop-row-preserved : goal.loop-row-preserved
loop-row-preserved c =
    next_laid c.args.changes.now c.loop-row.row-index c.loop-row-item.result c.loop-row.images.entries _ _ c.loop-row-test.true c.loop-row-item.is
    c.in_ok-make.ensures c.loop-row.invariant

pub returns : goal.returns
returns c = all_laid c.args.changes.now c.loop-row.row-index c.loop-row.images.entries _ c.loop-row-test.false c.loop-row.invariant
