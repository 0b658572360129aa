use Rattle.std.proofs.Common.{ap}
use Rattle.write_set.specs.Merge.{verdicts}
use Rattle.write_set.specs.Snapshot.{snap_at, snap_rows}
use Rattle.write_set.specs.laws.Sealing.{epochs_stay, sealed_grows}
use Rattle.write_set.proofs.laws.sealed_epochs_stay.Goals as goal

pub returns-clause-epochs : goal.returns-clause-epochs
returns-clause-epochs c = epochs_stay

pub returns-clause-verdicts : goal.returns-clause-verdicts
returns-clause-verdicts c older newer epoch grows sealed = ap verdicts (epochs_stay older newer epoch grows sealed)

pub returns-clause-snapshots : goal.returns-clause-snapshots
returns-clause-snapshots c older newer epoch grows sealed =
    let same = epochs_stay older newer epoch grows sealed in
    (λ row. ap (λ epochs. snap_at epochs row) same, ap snap_rows same)

pub returns-clause-sealed : goal.returns-clause-sealed
returns-clause-sealed c = sealed_grows
