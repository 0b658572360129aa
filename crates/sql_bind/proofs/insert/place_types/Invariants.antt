-- the types of the places so far are there
use Rattle.std.proofs.Common.{◌≡◌, map, take}
use Rattle.sql_bind.specs.Names.{type_at}
use Rattle.sql_bind.proofs.insert.place_types.Given as goal

abbrev pub invariant-loop-place : goal.invariant-loop-place
invariant-loop-place l =
    l.types.items ≡ map (type_at l.columns) (take l.place-index l.places)
