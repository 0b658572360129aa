use Rattle.geo_script.proofs.Texts.{table_answered}
use Rattle.geo_script.proofs.reading.table.declared_table.Goals as goal

pub returns : goal.returns
returns c = table_answered c.args.text.now c.read_table.result c.read_table.ensures.declared c.read_table.ensures.only
