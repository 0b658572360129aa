use Rattle.sql_exec.specs.laws.Staying.{rows_stay}
use Rattle.sql_exec.proofs.laws.rows_stay_rows.Goals as goal

pub returns : goal.returns
returns c = record { stay = rows_stay }
