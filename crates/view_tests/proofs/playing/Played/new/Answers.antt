use Rattle.std.proofs.Common.{subst}
use Rattle.snap_view.specs.Snapshots.{HoldsIndexes}
use Rattle.view_tests.proofs.playing.Played.new.Goals as goal

pub invariant_of-result : goal.invariant_of-result
invariant_of-result c =
    (c.new-region.ensures, subst (λ tables. HoldsIndexes tables c.in_ok-snapshot.snapshot) c.new-region.ensures c.in_ok-snapshot.ensures)
