use Rattle.sql_expr.proofs.Typed.{typed}
use Rattle.sql_expr.proofs.laws.values_are_of_their_types.Goals as goal

pub returns : goal.returns
returns c = record { typed = λ columns row e t fits h. typed columns row fits e t h }
