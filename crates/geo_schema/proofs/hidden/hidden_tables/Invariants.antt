-- the tables of the uniques so far are there
use Rattle.std.proofs.Common.{◌≡◌, map, take}
use Rattle.geo_schema.specs.Uniques.{hidden_table}
use Rattle.geo_schema.proofs.hidden.hidden_tables.Given as goal

abbrev pub invariant-loop-unique : goal.invariant-loop-unique
invariant-loop-unique l = l.hidden.items ≡ map (hidden_table l.tables) (take l.unique-index l.uniques)
