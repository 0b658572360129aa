use Rattle.sql_expr.proofs.FirstFaults.{faults_are_first}
use Rattle.sql_expr.proofs.laws.faults_are_of_first_steps.Goals as goal

pub returns : goal.returns
returns c = record { exact = faults_are_first }
