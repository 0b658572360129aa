use Rattle.sql_expr.proofs.FirstFaults.{never_no_memory}
use Rattle.sql_expr.proofs.laws.want_of_memory_is_no_fault.Goals as goal

pub returns : goal.returns
returns c = record { never = never_no_memory }
