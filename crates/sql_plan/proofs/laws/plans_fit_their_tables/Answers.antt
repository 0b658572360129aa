use Rattle.sql_plan.proofs.Fitting.{plan_fits}
use Rattle.sql_plan.proofs.laws.plans_fit_their_tables.Goals as goal

pub returns : goal.returns
returns c = plan_fits
