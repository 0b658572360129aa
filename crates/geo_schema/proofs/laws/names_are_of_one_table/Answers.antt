use Rattle.geo_schema.proofs.Names.{names_apart}
use Rattle.geo_schema.proofs.laws.names_are_of_one_table.Goals as goal

pub returns : goal.returns
returns c = names_apart
