use Rattle.sql_expr.proofs.Truths.{not_twice}
use Rattle.sql_expr.proofs.laws.not_twice_changes_nothing.Goals as goal

pub returns : goal.returns
returns c = record { same = not_twice }
