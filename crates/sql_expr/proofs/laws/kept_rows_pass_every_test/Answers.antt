use Rattle.sql_expr.proofs.Kept.{kept_all}
use Rattle.sql_expr.proofs.laws.kept_rows_pass_every_test.Goals as goal

pub returns : goal.returns
returns c = record { exact = kept_all }
