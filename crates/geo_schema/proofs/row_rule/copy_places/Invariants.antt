-- the cells at the places so far are copied
use Rattle.std.proofs.Common.{◌≡◌, map, take, slice_index_or}
use Rattle.geo_base.specs.declared.cell.Cell.TheVariants as cell
use Rattle.geo_schema.proofs.row_rule.copy_places.Given as goal

abbrev pub invariant-loop-place : goal.invariant-loop-place
invariant-loop-place l = l.copies.items ≡ map (λ place. slice_index_or l.cells place cell.Null) (take l.place-index l.places)
