use Rattle.geo_script.proofs.Texts.{index_answered}
use Rattle.geo_script.proofs.reading.index.index_of.Goals as goal

pub returns-clause-index : goal.returns-clause-index
returns-clause-index c = index_answered c.args.tables.now c.args.name.now c.args.text.now c.read_index.result c.read_index.ensures.declared c.read_index.ensures.only
