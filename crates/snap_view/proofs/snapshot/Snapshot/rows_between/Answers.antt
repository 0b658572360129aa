use Rattle.snap_view.proofs.Between.{high_border, low_border}
use Rattle.snap_view.proofs.snapshot.Snapshot.rows_between.Goals as goal

pub rows_between-requires-clause-first : goal.rows_between-requires-clause-first
rows_between-requires-clause-first c = low_border c.args.low.now.table c.args.low.now.edge.now c.self.inside.versions.rows c.self.invariant.order.rising

pub rows_between-requires-clause-last : goal.rows_between-requires-clause-last
rows_between-requires-clause-last c = high_border c.args.high.now.table c.args.high.now.edge.now c.self.inside.versions.rows c.self.invariant.order.rising
