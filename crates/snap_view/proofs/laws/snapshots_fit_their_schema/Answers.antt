use Rattle.snap_view.specs.laws.Fitting.{rows_fit}
use Rattle.snap_view.proofs.laws.snapshots_fit_their_schema.Goals as goal

pub returns : goal.returns
returns c = rows_fit
