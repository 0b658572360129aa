use Rattle.sql_expr.proofs.Levels.{false_and, true_or}
use Rattle.sql_expr.proofs.laws.settled_sides_spare_the_right.Goals as goal

pub returns-clause-of_and : goal.returns-clause-of_and
returns-clause-of_and c = false_and

pub returns-clause-of_or : goal.returns-clause-of_or
returns-clause-of_or c = true_or
