-- the columns at the places so far are added
use Rattle.std.proofs.Common.{◌≡◌, ◌++◌, take}
use Rattle.geo_schema.specs.Uniques.{hidden_columns}
use Rattle.geo_schema.proofs.hidden.add_columns.Given as goal

abbrev pub invariant-loop-place : goal.invariant-loop-place
invariant-loop-place l = l.out.items ≡ l.fn.out.items ++ hidden_columns l.columns (take l.place-index l.places)
