use Rattle.std.proofs.Common.{◌≡◌, ◌++◌, drop}
use Rattle.schema_text.specs.Tables.{key_places}
use Rattle.schema_text.proofs.table.key_places.Given as goal

abbrev pub invariant-loop-place : goal.invariant-loop-place
invariant-loop-place l = key_places 0 l.columns ≡ l.places.items ++ key_places l.place (drop l.place l.columns)
