use Rattle.std.proofs.Common.{◌≡◌, map, drop, slice_index_or}
use Rattle.geo_base.specs.Order.{cells_eq}
use Rattle.geo_base.specs.declared.cell.Cell.TheVariants as cell
use Rattle.index_store.proofs.columns.have_same_cells.Given as goal

-- whether the cells are the same is whether those from here on are
abbrev pub invariant-loop-place : goal.invariant-loop-place
invariant-loop-place l =
    cells_eq (map (λ place. slice_index_or l.a place cell.Null) (drop l.place-index l.places)) (map (λ place. slice_index_or l.b place cell.Null) (drop l.place-index l.places))
    ≡ cells_eq (map (λ place. slice_index_or l.a place cell.Null) l.places) (map (λ place. slice_index_or l.b place cell.Null) l.places)
