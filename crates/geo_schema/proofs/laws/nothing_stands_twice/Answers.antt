use Rattle.geo_schema.proofs.Names.{columns_apart, indexes_apart, places_apart}
use Rattle.geo_schema.proofs.laws.nothing_stands_twice.Goals as goal

pub returns-clause-columns : goal.returns-clause-columns
returns-clause-columns c = columns_apart

pub returns-clause-indexes : goal.returns-clause-indexes
returns-clause-indexes c = indexes_apart

pub returns-clause-places : goal.returns-clause-places
returns-clause-places c = places_apart
