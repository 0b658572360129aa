-- Which rows and pairs of rows a plan hands out, which plans fit their tables, and which leave out only what is dropped.
use Rattle.std.specs.Prelude.{◌≡◌, ⊤, ℕ, ◌<◌, Bool, false, not, ◌&&◌, nat_eq, Option, Some, None, List, [], ◌∷◌, ◌++◌, length, map, slice_index_or, Contains}
use Rattle.std.specs.List.{All}
use Rattle.std.specs.Ordering.{is_eq}
use Rattle.geo_base.specs.Cells.{is_null}
use Rattle.geo_base.specs.Order.{cell_cmp, row_eq}
use Rattle.geo_base.specs.declared.cell.Cell.{Cell}
use Rattle.geo_base.specs.declared.cell.Cell.TheVariants as cell
use Rattle.geo_base.specs.declared.row_id.RowId.{RowId}
use Rattle.geo_schema.specs.Schemas.{Tables, table_at}
use Rattle.geo_schema.specs.declared.table.TableDef.{TableDef}
use Rattle.geo_schema.specs.Indexes.{index_at}
use Rattle.row_source.specs.Sources.{Entry, is_by_index, is_by_key}
use Rattle.row_source.specs.declared.plan.Access.{Access}
use Rattle.row_source.specs.declared.plan.Access.TheVariants as access
use Rattle.row_source.specs.declared.plan.JoinKind.{JoinKind}
use Rattle.row_source.specs.declared.plan.JoinKind.TheVariants as join
use Rattle.row_source.specs.declared.plan.KeyPart.{KeyPart}
use Rattle.row_source.specs.declared.plan.KeyPart.TheVariants as part
use Rattle.row_source.specs.declared.plan.Plan.{Plan}
use Rattle.row_source.specs.declared.plan.Second.{Second}
use Rattle.write_set.specs.Overlay.{Table}

-- ---- rows

-- the name of a row of a table
abbrev pub row_named : ℕ → List Cell → RowId
row_named table key = record { table = table; key = key }

-- the access to the table with the number reaches the row
abbrev pub reaches : Tables → ℕ → Access → Entry → Bool
reaches tables number (access.Point key) entry = row_eq (row_named number key) entry.0
reaches tables number (access.Range range) entry = is_by_key number range entry
reaches tables number (access.Index place range) entry = is_by_index (index_at (table_at tables number) place) number range entry
reaches tables number access.Scan entry = nat_eq entry.0.table number

-- ---- pairs

-- the cell of a row at a place, and NULL behind the last one
abbrev pub cell_at : List Cell → ℕ → Cell
cell_at cells place = slice_index_or cells place cell.Null

-- the cell that a part of the right key stands for, beside a left row
abbrev pub part_cell : List Cell → KeyPart → Cell
part_cell left (part.Lit literal) = literal
part_cell left (part.Left column) = cell_at left column

-- two cells are equal, and neither is NULL
abbrev pub are_linked : Cell → Cell → Bool
are_linked a b = not (is_null a) && (not (is_null b) && is_eq (cell_cmp a b))

-- the row of the right table, which has the number, is found beside the left one, whose cells these are; a join by key
-- asks nothing of the access
abbrev pub finds_by : Tables → ℕ → Access → JoinKind → List Cell → Entry → Bool
finds_by tables number way join.Nested left entry = reaches tables number way entry
finds_by tables number way (join.ByKey parts) left entry = row_eq (row_named number (map (part_cell left) parts)) entry.0
finds_by tables number way (join.Hashed a b) left entry = reaches tables number way entry && are_linked (cell_at left a) (cell_at entry.1 b)

-- the same by the second part of a plan, and by none no row
abbrev pub finds : Tables → ℕ → Option Second → List Cell → Entry → Bool
finds tables number None left entry = false
finds tables number (Some second) left entry = finds_by tables number second.access second.join left entry

-- a plan of two tables hands out the pair of rows
abbrev pub hands_out : Tables → ℕ → ℕ → Plan → Entry → Entry → Bool
hands_out tables left right plan a b = reaches tables left plan.first a && finds tables right plan.second a.1 b

-- ---- plans that leave out only what is dropped

-- each row of the one table, and each pair of rows of the two, that the plan doesn't hand out is dropped
abbrev pub LeavesOut : Tables → List ℕ → Plan → Table → (List Cell → Type 0) → Type 0
LeavesOut tables [] plan rows IsDropped = ⊤
LeavesOut tables (left ∷ []) plan rows IsDropped =
    (a : Entry) → Contains rows a → a.0.table ≡ left → reaches tables left plan.first a ≡ false → IsDropped a.1
LeavesOut tables (left ∷ right ∷ _) plan rows IsDropped =
    (a b : Entry) → Contains rows a → Contains rows b → a.0.table ≡ left → b.0.table ≡ right →
    hands_out tables left right plan a b ≡ false → IsDropped (a.1 ++ b.1)

-- ---- plans that fit their tables

-- an index that is named is one of the table's
abbrev pub IsAccessTo : TableDef → Access → Type 0
IsAccessTo table (access.Point key) = ⊤
IsAccessTo table (access.Range range) = ⊤
IsAccessTo table (access.Index place range) = place < length table.indexes
IsAccessTo table access.Scan = ⊤

-- a column of the left table that a part of a key names is one that it has
abbrev pub IsPartBeside : TableDef → KeyPart → Type 0
IsPartBeside left (part.Lit _) = ⊤
IsPartBeside left (part.Left column) = column < length left.columns

-- the columns that are named are those of their tables
abbrev pub IsJoinOf : TableDef → TableDef → JoinKind → Type 0
IsJoinOf left right join.Nested = ⊤
IsJoinOf left right (join.ByKey parts) = All (IsPartBeside left) parts
IsJoinOf left right (join.Hashed a b) = (a < length left.columns) × (b < length right.columns)

-- there is a second part, and it fits the two tables
abbrev pub HasSecond : TableDef → TableDef → Option Second → Type 0
HasSecond left right None = ⊥
HasSecond left right (Some second) = IsAccessTo right second.access × IsJoinOf left right second.join

-- a plan of one table has no second part, and one of two tables has one
abbrev pub IsPlanFor : Tables → List ℕ → Plan → Type 0
IsPlanFor tables [] plan = ⊥
IsPlanFor tables (left ∷ []) plan = IsAccessTo (table_at tables left) plan.first × (plan.second ≡ None)
IsPlanFor tables (left ∷ right ∷ []) plan =
    IsAccessTo (table_at tables left) plan.first × HasSecond (table_at tables left) (table_at tables right) plan.second
IsPlanFor tables (left ∷ right ∷ _ ∷ _) plan = ⊥
