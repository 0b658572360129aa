use Rattle.sql_expr.proofs.Truths.{not_through_and, not_through_or}
use Rattle.sql_expr.proofs.laws.not_turns_and_into_or.Goals as goal

pub returns-clause-of_and : goal.returns-clause-of_and
returns-clause-of_and c = not_through_and

pub returns-clause-of_or : goal.returns-clause-of_or
returns-clause-of_or c = not_through_or
