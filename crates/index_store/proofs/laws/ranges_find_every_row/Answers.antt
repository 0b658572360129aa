use Rattle.index_store.specs.laws.Finding.{finds_rows}
use Rattle.index_store.proofs.laws.ranges_find_every_row.Goals as goal

pub returns : goal.returns
returns c = finds_rows
