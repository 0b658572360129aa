use Rattle.sql_expr.proofs.Levels.{left_of_arithmetic, left_of_comparison, left_of_and, left_of_or}
use Rattle.sql_expr.proofs.laws.left_faults_win.Goals as goal

pub returns-clause-of_arithmetic : goal.returns-clause-of_arithmetic
returns-clause-of_arithmetic c = left_of_arithmetic

pub returns-clause-of_comparison : goal.returns-clause-of_comparison
returns-clause-of_comparison c = left_of_comparison

pub returns-clause-of_and : goal.returns-clause-of_and
returns-clause-of_and c = left_of_and

pub returns-clause-of_or : goal.returns-clause-of_or
returns-clause-of_or c = left_of_or
