use Rattle.schema_text.specs.laws.Tables.{table_text_is, table_text_read}
use Rattle.schema_text.proofs.laws.table_texts_are_read.Goals as goal

pub returns : goal.returns
returns c = λ text table. (table_text_is text table, λ is. table_text_read text table is.0 is.1)
