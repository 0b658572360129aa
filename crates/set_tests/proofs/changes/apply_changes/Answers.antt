use Rattle.write_set.specs.laws.Nets.{touches_known}
use Rattle.set_tests.proofs.changes.apply_changes.Goals as goal

-- each touched row is said to be in the snapshot
pub apply-requires : goal.apply-requires
apply-requires c = touches_known c.args.set.now c.args.changes.items (rw c.deref.ensures.value at (c.are_known.ensures c.if-are_known.true))
