-- What only the bodies of this crate speak of: right rows by their cell in the column of a link.
use Rattle.std.specs.Prelude.{ℕ, Option, Some, None, List, [], filter}
use Rattle.std.specs.Map.{lookup}
use Rattle.geo_base.specs.Order.{cell_eq}
use Rattle.geo_base.specs.declared.cell.Cell.{Cell}
use Rattle.geo_base.specs.declared.row_image.RowImage.{RowImage}
use Rattle.row_source.specs.Handing.{are_linked, cell_at}

-- the rows whose cell in the column is equal to this one
abbrev pub linked : ℕ → Cell → List RowImage → List RowImage
linked column c rows = filter (λ row. are_linked c (cell_at row column)) rows

-- what stands at a cell, and nothing where there is none
abbrev pub found_rows : {V : Type 0} → (V → List RowImage) → Option V → List RowImage
found_rows rows None = []
found_rows rows (Some v) = rows v

-- the rows that a map has at a cell
abbrev pub rows_at : {K V : Type 0} → (K → Cell) → (V → List RowImage) → List (K × V) → Cell → List RowImage
rows_at cell rows entries c = found_rows rows (lookup (λ k. cell_eq c (cell k)) entries)
