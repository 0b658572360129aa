use Rattle.merge_round.proofs.Growing.{next_rows}
use Rattle.merge_round.proofs.numbering.number_rows.Goals as goal

pub loop-row-preserved : goal.loop-row-preserved
loop-row-preserved c =
    next_rows c.args.changes.now c.loop-row.row-index c.loop-row-item.result c.args.rows.now.keys c.loop-row.rows.keys c.insert_full.new.self.keys c.in_ok-copy.field-0 c.loop-row.numbers.items c.in_ok-number.number
    c.push.new.self.items c.loop-row.invariant.0 c.loop-row.invariant.1 c.loop-row-test.true c.loop-row-item.is c.in_ok-copy.ensures c.in_ok-number.ensures.keys c.in_ok-number.ensures.index c.in_ok-push.ensures.items
