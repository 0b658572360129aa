use Rattle.write_set.specs.laws.Nets.{touches_known}
use Rattle.version_tests.proofs.epochs.set_of.Goals as goal

-- each of the rows is said to be in the snapshot
pub with-requires : goal.with-requires
with-requires c = touches_known c.empty.result c.args.changes.items (rw c.deref.ensures.value at (c.are_known.ensures c.if-are_known.true))
