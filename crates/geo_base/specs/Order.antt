-- The total orders and the equalities of texts, cells, lists of cells and names of rows.
use Rattle.std.specs.Prelude.{ℕ, Bool, List, nat_eq}
use Rattle.std.specs.Cmp.Lexicographic.{pointwise, slice_cmp}
use Rattle.std.specs.Ordering.{nat_cmp, int_cmp, bool_cmp, ordering_then, eq_by_cmp}
use Rattle.std.specs.declared.cmp.Ordering.{Ordering}
use Rattle.geo_base.specs.declared.cell.Cell.{Cell}
use Rattle.geo_base.specs.declared.cell.Cell.TheVariants.{Null, Int, Text, Truth}
use Rattle.geo_base.specs.declared.row_id.RowId.{RowId}

-- texts are ordered by their bytes
abbrev pub text_cmp : List ℕ → List ℕ → Ordering
text_cmp = slice_cmp nat_cmp

-- two texts are one
abbrev pub text_eq : List ℕ → List ℕ → Bool
text_eq = pointwise nat_eq

-- the place of the cell's kind in Null, Int, Text, Truth
abbrev pub kind_of : Cell → ℕ
kind_of Null = 0
kind_of (Int x) = 1
kind_of (Text x) = 2
kind_of (Truth x) = 3

-- numbers by value, texts by bytes, false before true, and cells of two kinds by their kinds
abbrev pub cell_cmp : Cell → Cell → Ordering
cell_cmp (Int x) (Int y) = int_cmp x y
cell_cmp (Text x) (Text y) = text_cmp x y
cell_cmp (Truth x) (Truth y) = bool_cmp x y
cell_cmp a b = nat_cmp (kind_of a) (kind_of b)

-- cells are equal where the order doesn't tell them apart
abbrev pub cell_eq : Cell → Cell → Bool
cell_eq = eq_by_cmp cell_cmp

-- keys, row images and lines are ordered cell by cell
abbrev pub cells_cmp : List Cell → List Cell → Ordering
cells_cmp = slice_cmp cell_cmp

-- two lists of cells are one
abbrev pub cells_eq : List Cell → List Cell → Bool
cells_eq = pointwise cell_eq

-- names of rows are ordered by table, and then by key
unfoldable pub row_cmp : RowId → RowId → Ordering
row_cmp a b = ordering_then (nat_cmp a.table b.table) (cells_cmp a.key b.key)

-- two names of rows are one
unfoldable pub row_eq : RowId → RowId → Bool
row_eq = eq_by_cmp row_cmp
