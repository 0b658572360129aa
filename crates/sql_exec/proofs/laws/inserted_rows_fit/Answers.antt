use Rattle.sql_exec.specs.laws.Inserted.{inserts_fit}
use Rattle.sql_exec.proofs.laws.inserted_rows_fit.Goals as goal

pub returns : goal.returns
returns c = record { fit = inserts_fit c.bound_values_are_of_their_columns_types.ensures.inserted }
