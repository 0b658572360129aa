use Rattle.std.proofs.Common.{sym, subst}
use Rattle.snap_view.specs.Snapshots.{HoldsIndexes}
use Rattle.view_tests.proofs.playing.Played.take_copy.Goals as goal

pub invariant_of-self : goal.invariant_of-self
invariant_of-self c = (c.self.invariant.0, subst (HoldsIndexes c.self.inside.schema.now) (sym c.in_ok-copy.ensures) c.self.invariant.1)
