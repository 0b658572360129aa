-- Laws: where cells have no fault, they are as many as columns, and none is at fault.
use Rattle.std.proofs.Common.{◌≡◌, ℕ, ◌+◌, ◌<◌, List, [], ◌∷◌, Option, Some, None, zero, suc, length, get_or, refl, arith}
use Rattle.std.specs.Option.{option_or}
use Rattle.std.proofs.lemmas.Bool.Decides.{nat_tests}
use Rattle.geo_base.specs.declared.cell.Cell.{Cell}
use Rattle.geo_base.specs.declared.cell.Cell.TheVariants as cell
use Rattle.geo_schema.specs.declared.column.ColumnDef.{ColumnDef}
use Rattle.geo_schema.specs.declared.table.TableDef.{TableDef}
use Rattle.geo_schema.specs.Tables.{no_column}
use Rattle.geo_schema.specs.inner.Rows.{cell_fault, cells_fault, row_fault}

pub or_none : {A : Type 0} (a b : Option A) → option_or a b ≡ None → (a ≡ None) × (b ≡ None)
or_none None b h = (refl, h)
or_none (Some x) b h = cc

-- of cells without a fault, none is at fault
pub cell_faultless : (key : List ℕ) (place : ℕ) (columns : List ColumnDef) (cells : List Cell) (k at : ℕ) → cells_fault key place columns cells ≡ None →
    k < length columns → k < length cells → at ≡ place + k → cell_fault key (get_or columns k no_column) at (get_or cells k cell.Null) ≡ None
cell_faultless key place [] cells k at h c d e = absurd (omega arith)
cell_faultless key place (column ∷ columns) [] k at h c d e = absurd (omega arith)
cell_faultless key place (column ∷ columns) (first ∷ cells) zero at h c d e =
    let here : at ≡ place = omega arith in
    rw here ((or_none (cell_fault key column place first) (cells_fault key (place + 1) columns cells) h).0)
cell_faultless key place (column ∷ columns) (first ∷ cells) (suc k) at h c d e =
    let rest = (or_none (cell_fault key column place first) (cells_fault key (place + 1) columns cells) h).1 in
    cell_faultless key (place + 1) columns cells k at rest (omega arith) (omega arith) (omega arith)

pub row_count : (table : TableDef) (cells : List Cell) → row_fault table cells ≡ None → length cells ≡ length table.columns
unfolding row_fault
row_count table cells h = grind (arith, nat_tests)

pub row_cells : (table : TableDef) (cells : List Cell) → row_fault table cells ≡ None → cells_fault table.key 0 table.columns cells ≡ None
unfolding row_fault
row_cells table cells h = grind (arith, nat_tests)
