use Rattle.geo_schema.proofs.Names.{columns_twice, indexes_twice, key_twice, index_places_twice, bad_table, tables_twice, bad_unique}
use Rattle.geo_schema.proofs.laws.what_stands_twice_is_a_fault.Goals as goal

pub returns-clause-columns : goal.returns-clause-columns
returns-clause-columns c = columns_twice

pub returns-clause-indexes : goal.returns-clause-indexes
returns-clause-indexes c = indexes_twice

pub returns-clause-key : goal.returns-clause-key
returns-clause-key c = key_twice

pub returns-clause-index_places : goal.returns-clause-index_places
returns-clause-index_places c = index_places_twice

pub returns-clause-bad_table : goal.returns-clause-bad_table
returns-clause-bad_table c = bad_table

pub returns-clause-tables : goal.returns-clause-tables
returns-clause-tables c = tables_twice

pub returns-clause-uniques : goal.returns-clause-uniques
returns-clause-uniques c = bad_unique
