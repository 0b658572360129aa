use Rattle.std.proofs.Common.{subst}
use Rattle.write_set.specs.laws.Tables.{rises_overlay}
use Rattle.write_set.specs.Sets.{Rises}
use Rattle.snap_view.specs.Snapshots.{rows_of}
use Rattle.snap_view.specs.Views.{Viewed, seen_rows}
use Rattle.snap_view.proofs.view.View.rises.Goals as goal

pub returns : goal.returns
returns c =
    subst (λ (v : Viewed). Rises (seen_rows v)) c.self.view_is (rises_overlay (rows_of c.self.inside.snapshot.now) c.self.inside.own.now c.self.invariant.base_rises)
