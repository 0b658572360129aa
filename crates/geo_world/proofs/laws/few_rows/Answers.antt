use Rattle.std.proofs.Common.{ℕ, ◌*◌, ◌≤◌, length, subst, arith, le_trans}
use Rattle.geo_base.specs.declared.limits.TheConstants.{SESSIONS_PER_REGION}
use Rattle.write_set.specs.Snapshot.{snap_rows}
use Rattle.geo_world.specs.World.{published_epochs}
use Rattle.geo_world.proofs.Played.{played-sound, played-count}
use Rattle.geo_world.proofs.FewRows.{played-rows, rows-few}
use Rattle.geo_world.proofs.laws.few_rows.Goals as goal

at_most_eight : (regions : ℕ) → regions ≤ 8 → regions * SESSIONS_PER_REGION ≤ 512
at_most_eight regions h = omega arith

pub returns-clause-by_sessions : goal.returns-clause-by_sessions
returns-clause-by_sessions c regions last events w region play =
    subst (λ (n : ℕ). length (snap_rows (published_epochs w region)) ≤ n * SESSIONS_PER_REGION) (played-count regions last events w play)
    (rows-few w (played-sound regions last events w play) (played-rows regions last events w play) region)

pub returns-clause-few : goal.returns-clause-few
returns-clause-few c regions last events w region play =
    le_trans (returns-clause-by_sessions c regions last events w region play) (at_most_eight regions play.few)
