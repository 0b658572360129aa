use Rattle.snap_view.specs.laws.Fitting.{overlay_fits}
use Rattle.snap_view.proofs.laws.views_fit_their_schema.Goals as goal

pub returns : goal.returns
returns c = overlay_fits
