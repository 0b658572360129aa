use Rattle.std.proofs.Common.{subst}
use Rattle.snap_view.specs.Snapshots.{HoldsIndexes}
use Rattle.view_tests.proofs.playing.Played.look.Goals as goal

pub invariant_of-self : goal.invariant_of-self
invariant_of-self c = (c.self.invariant.0, subst (λ tables. HoldsIndexes tables c.in_ok-snapshot.snapshot) c.self.invariant.0 c.in_ok-snapshot.ensures)
