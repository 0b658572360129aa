use Rattle.schema_text.specs.laws.Indexes.{index_text_is, index_text_named}
use Rattle.schema_text.proofs.laws.index_texts_are_read.Goals as goal

pub returns : goal.returns
returns c = λ tables name text at index. (index_text_is tables name text at index, λ is. index_text_named tables name text at index is.0 is.1)
