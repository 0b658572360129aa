use Rattle.sql_plan.proofs.LeftOut.{left_out}
use Rattle.sql_plan.proofs.laws.tests_drop_what_plans_leave_out.Goals as goal

pub returns : goal.returns
returns c = left_out
