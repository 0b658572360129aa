use Rattle.sql_exec.specs.laws.Updated.{updates_fit}
use Rattle.sql_exec.proofs.laws.updated_rows_fit.Goals as goal

pub returns : goal.returns
returns c = record { fit = updates_fit c.bound_values_are_of_their_columns_types.ensures.updated }
