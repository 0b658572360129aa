use Rattle.std.proofs.Common.{◌∙◌}
use Rattle.sql_plan.specs.Plans.{is_fixed}
use Rattle.sql_plan.specs.inner.Borrowed.{usable}
use Rattle.sql_plan.proofs.Chosen.{first_none, first_some}
use Rattle.sql_plan.proofs.access.begins_fixed.Goals as goal

pub returns-in-Some : goal.returns-in-Some
returns-in-Some c = c.is_fixed.ensures ∙ first_some (is_fixed (usable c.args.tests.now)) c.args.columns.now _ c.in-Some.ensures.value

pub returns-in-None : goal.returns-in-None
returns-in-None c = first_none (is_fixed (usable c.args.tests.now)) c.args.columns.now c.in-None.ensures.value
