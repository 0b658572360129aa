use Rattle.schema_text.specs.Tables.{column_place}
use Rattle.schema_text.proofs.Lists.{AreRead}
use Rattle.schema_text.proofs.index.each_place.Given as goal

abbrev pub invariant-loop-name : goal.invariant-loop-name
invariant-loop-name l = AreRead (column_place l.columns) l.names l.places.items l.name-index
