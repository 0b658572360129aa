use Rattle.std.proofs.Common.{sym, subst}
use Rattle.write_set.specs.Net.{TouchesKnown}
use Rattle.set_tests.proofs.Touches.{one_touch}
use Rattle.set_tests.proofs.changes.with_word.Goals as goal

-- the change is the only one, and its row is known where it is touched
pub with-requires : goal.with-requires
with-requires c =
    subst (TouchesKnown c.args.set.now) (sym c.in_ok-changes.ensures.items)
    (one_touch c.args.set.now c.in_ok-change.change (c.is_known_to.ensures c.if-not-is_known_to.false))
