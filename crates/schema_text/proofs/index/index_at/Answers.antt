use Rattle.schema_text.specs.laws.Tables.{few_columns_at}
use Rattle.schema_text.proofs.index.index_at.Goals as goal

pub index_on-requires : goal.index_on-requires
index_on-requires c = few_columns_at c.args.tables.now c.in-Some-number_of.at c.index-tables-at.result c.requires.schema c.in-Some-number_of.ensures.within c.index-tables-at.is
