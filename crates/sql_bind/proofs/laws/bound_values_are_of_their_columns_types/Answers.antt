use Rattle.sql_bind.proofs.Values.{wanted_value, inserted_value, set_value}
use Rattle.sql_bind.proofs.laws.bound_values_are_of_their_columns_types.Goals as goal

pub returns-clause-wanted : goal.returns-clause-wanted
returns-clause-wanted c = wanted_value c.values_are_of_their_types.ensures.typed

pub returns-clause-inserted : goal.returns-clause-inserted
returns-clause-inserted c = inserted_value c.values_are_of_their_types.ensures.typed

pub returns-clause-updated : goal.returns-clause-updated
returns-clause-updated c = set_value c.values_are_of_their_types.ensures.typed
