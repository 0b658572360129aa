-- The plan of a statement: how the rows of its table or tables are reached, by the tests that may be used.
use Rattle.std.specs.Prelude.{ℕ, Bool, true, false, ◌&&◌, ◌||◌, nat_eq, if◌then◌else◌, Option, Some, None, List, [], ◌∷◌, ◌++◌, length, slice_get}
use Rattle.std.specs.List.{find, list_any, position}
use Rattle.std.specs.Option.{is_some, option_and_then, option_map, option_or}
use Rattle.geo_base.specs.declared.cell.Cell.{Cell}
use Rattle.geo_base.specs.declared.cell.Cell.TheVariants as cell
use Rattle.geo_schema.specs.declared.range.Edge.{Edge}
use Rattle.geo_schema.specs.declared.range.Edge.TheVariants.{Open, Incl, Excl}
use Rattle.geo_schema.specs.declared.range.KeyRange.{KeyRange}
use Rattle.geo_schema.specs.declared.table.TableDef.{TableDef}
use Rattle.geo_schema.specs.Schemas.{Tables, table_at}
use Rattle.geo_schema.specs.Indexes.{index_at}
use Rattle.row_source.specs.declared.plan.Access.{Access}
use Rattle.row_source.specs.declared.plan.Access.TheVariants as access
use Rattle.row_source.specs.declared.plan.JoinKind.{JoinKind}
use Rattle.row_source.specs.declared.plan.JoinKind.TheVariants as join
use Rattle.row_source.specs.declared.plan.KeyPart.{KeyPart}
use Rattle.row_source.specs.declared.plan.KeyPart.TheVariants as part
use Rattle.row_source.specs.declared.plan.Plan.{Plan}
use Rattle.row_source.specs.declared.plan.Second.{Second}
use Rattle.sql_expr.specs.declared.expr.Expr.{Expr}
use Rattle.sql_expr.specs.declared.expr.Test.{Test}
use Rattle.sql_expr.specs.declared.expr.Test.TheVariants as test
use Rattle.sql_plan.specs.Tests.{ColumnTest, Link, column_tests, links_of, tests_of}

-- ---- tests by what they say of their column

-- the column is equal to the literal
abbrev pub is_equality : Test → Bool
is_equality test.Equal = true
is_equality _ = false

-- the column is above the literal, or equal to it
abbrev pub is_lower : Test → Bool
is_lower test.More = true
is_lower test.MoreEqual = true
is_lower _ = false

-- the column is below the literal, or equal to it
abbrev pub is_upper : Test → Bool
is_upper test.Less = true
is_upper test.LessEqual = true
is_upper _ = false

-- the literal itself is left out
abbrev pub is_strict : Test → Bool
is_strict test.Less = true
is_strict test.More = true
is_strict _ = false

-- the first test of the column that says such a thing
abbrev pub first_test : (Test → Bool) → List ColumnTest → ℕ → Option ColumnTest
first_test says tests column = find (λ t. nat_eq t.column column && says t.test) tests

-- the cell that the column is equal to, by its first equality
abbrev pub equal_cell : List ColumnTest → ℕ → Option Cell
equal_cell tests column = option_map (λ t. t.literal) (first_test is_equality tests column)

-- the column has an equality
abbrev pub is_fixed : List ColumnTest → ℕ → Bool
is_fixed tests column = is_some (equal_cell tests column)

-- the column has a lower or an upper test
abbrev pub is_bounded : List ColumnTest → ℕ → Bool
is_bounded tests column = is_some (first_test is_lower tests column) || is_some (first_test is_upper tests column)

-- the first of the columns is such a one
abbrev pub first_is : (ℕ → Bool) → List ℕ → Bool
first_is holds [] = false
first_is holds (column ∷ _) = holds column

-- ---- ranges

-- a cell and those behind it, where there is one
abbrev pub in_front : Option Cell → List Cell → List Cell
in_front None cells = []
in_front (Some c) cells = c ∷ cells

-- the cells that the leading columns are equal to, up to the first without an equality
abbrev pub fixed_cells : List ColumnTest → List ℕ → List Cell
fixed_cells tests [] = []
fixed_cells tests (column ∷ columns) = in_front (equal_cell tests column) (fixed_cells tests columns)

-- the first test that says such a thing of the first column after the fixed ones
abbrev pub next_test : (Test → Bool) → List ColumnTest → List ℕ → Option ColumnTest
next_test says tests columns = option_and_then (first_test says tests) (slice_get columns (length (fixed_cells tests columns)))

-- an edge by the fixed cells alone; where there is none, it is open
abbrev pub fixed_edge : List Cell → Edge
fixed_edge [] = Open
fixed_edge (c ∷ cells) = Incl (c ∷ cells)

-- an edge by the fixed cells and a test of the column after them
abbrev pub edge_of : List Cell → Option ColumnTest → Edge
edge_of fixed None = fixed_edge fixed
edge_of fixed (Some t) = if is_strict t.test then Excl (fixed ++ t.literal ∷ []) else Incl (fixed ++ t.literal ∷ [])

-- the range of a key: its leading columns are fixed, and the first after them has its first lower and its first upper test
abbrev pub key_range_of : List ColumnTest → List ℕ → KeyRange
key_range_of tests columns = record {
  low = edge_of (fixed_cells tests columns) (next_test is_lower tests columns);
  high = edge_of (fixed_cells tests columns) (next_test is_upper tests columns);
}

-- the low edge of an index's range: where there is an upper test and no lower one, NULL is left out, which is below all else
abbrev pub index_low : List Cell → Option ColumnTest → Option ColumnTest → Edge
index_low fixed None (Some upper) = Excl (fixed ++ cell.Null ∷ [])
index_low fixed lower upper = edge_of fixed lower

-- the range of an index, made as that of a key but for NULL
abbrev pub index_range_of : List ColumnTest → List ℕ → KeyRange
index_range_of tests columns = record {
  low = index_low (fixed_cells tests columns) (next_test is_lower tests columns) (next_test is_upper tests columns);
  high = edge_of (fixed_cells tests columns) (next_test is_upper tests columns);
}

-- ---- the access to one table

-- the place of the first index whose first column is such a one
abbrev pub index_where : (ℕ → Bool) → TableDef → Option ℕ
index_where holds table = position (λ index. first_is holds index.columns) table.indexes

-- the first index whose first column has an equality, and else the first whose first column has a lower or upper test
abbrev pub index_choice : TableDef → List ColumnTest → Option ℕ
index_choice table tests = option_or (index_where (is_fixed tests) table) (index_where (is_bounded tests) table)

-- an index where one is chosen, and else all rows
abbrev pub index_access : TableDef → List ColumnTest → Option ℕ → Access
index_access table tests (Some place) = access.Index place (index_range_of tests (index_at table place).columns)
index_access table tests None = access.Scan

-- the first that applies: a point, where each key column has an equality; a range of the key, where its first column has
-- a test; an index; all rows
unfoldable pub access_of : TableDef → List ColumnTest → Access
access_of table tests =
    if nat_eq (length (fixed_cells tests table.key)) (length table.key) then access.Point (fixed_cells tests table.key)
    else if first_is (λ column. is_fixed tests column || is_bounded tests column) table.key then access.Range (key_range_of tests table.key)
    else index_access table tests (index_choice table tests)

-- ---- the join to a right table

-- the left column that the right column is linked to first
abbrev pub linked_column : List Link → ℕ → Option ℕ
linked_column links column = option_map (λ l. l.left) (find (λ l. nat_eq l.right column) links)

-- what a column of the right key is equal to: its first equality's literal, and where there is none, the left column of its first link
abbrev pub part_of : List ColumnTest → List Link → ℕ → Option KeyPart
part_of tests links column = option_or (option_map part.Lit (equal_cell tests column)) (option_map part.Left (linked_column links column))

-- the parts of all columns of the right key, where each has one
abbrev pub parts_of : List ColumnTest → List Link → List ℕ → Option (List KeyPart)
parts_of tests links [] = Some []
parts_of tests links (column ∷ columns) =
    option_and_then (λ p. option_map (λ ps. p ∷ ps) (parts_of tests links columns)) (part_of tests links column)

-- the part is a column of the left table
abbrev pub is_left : KeyPart → Bool
is_left (part.Left _) = true
is_left (part.Lit _) = false

-- by the first link, where there is one, and else each row with each
abbrev pub join_by_links : List Link → JoinKind
join_by_links [] = join.Nested
join_by_links (l ∷ _) = join.Hashed l.left l.right

-- by the key, where the parts are there and one of them is a column of the left table
abbrev pub join_by_parts : List Link → Option (List KeyPart) → JoinKind
join_by_parts links (Some parts) = if list_any is_left parts then join.ByKey parts else join_by_links links
join_by_parts links None = join_by_links links

-- by the key of the right table, by a link, or each row with each
unfoldable pub join_of : TableDef → List ColumnTest → List Link → JoinKind
join_of table tests links = join_by_parts links (parts_of tests links table.key)

-- ---- plans

-- how many columns a table has
abbrev pub width : TableDef → ℕ
width table = length table.columns

-- the access to the left table, whose columns are counted first
abbrev pub first_access : TableDef → List Expr → Access
first_access left tests = access_of left (tests_of 0 (width left) (column_tests tests))

-- the access to the right table and the join to it
abbrev pub second_of : TableDef → TableDef → List Expr → Second
second_of left right tests = record {
  access = access_of right (tests_of (width left) (width right) (column_tests tests));
  join = join_of right (tests_of (width left) (width right) (column_tests tests)) (links_of (width left) (width right) tests);
}

-- the plan of a statement over one table or two, by its conjuncts
unfoldable pub plan_of : Tables → List ℕ → List Expr → Plan
plan_of tables [] tests = record { first = access.Scan; second = None }
plan_of tables (left ∷ []) tests = record { first = first_access (table_at tables left) tests; second = None }
plan_of tables (left ∷ right ∷ _) tests = record {
  first = first_access (table_at tables left) tests;
  second = Some (second_of (table_at tables left) (table_at tables right) tests);
}
