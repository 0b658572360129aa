-- The groups of a query, and what an item is for one.
use Rattle.std.specs.Prelude.{ℕ, ℤ, pos, ◌+ℤ◌, not, Result, Ok, List, [], ◌∷◌, filter, length, map, unwrap_or}
use Rattle.std.specs.BTreeSet.{insert_key}
use Rattle.std.specs.List.{reduce}
use Rattle.std.specs.Ordering.{is_eq, max_by_ordering, min_by_ordering}
use Rattle.geo_base.specs.Cells.{is_null}
use Rattle.geo_base.specs.Order.{cell_cmp, cells_cmp}
use Rattle.geo_base.specs.Results.{◌>>=◌}
use Rattle.geo_base.specs.declared.cell.Cell.{Cell}
use Rattle.geo_base.specs.declared.cell.Cell.TheVariants as cell
use Rattle.row_source.specs.declared.fault.ExecFault.{ExecFault}
use Rattle.row_source.specs.Handing.{cell_at}
use Rattle.row_source.specs.Matches.{in_statement, value}
use Rattle.sql_bind.specs.declared.bound.Item.{Item}
use Rattle.sql_bind.specs.declared.bound.Item.TheVariants as item
use Rattle.sql_bind.specs.Steps.{each}
use Rattle.sql_expr.specs.Values.{number}

-- ---- the arguments of aggregates

-- what an item asks of each row: the argument of an aggregate; a plain item and COUNT(*) ask nothing
abbrev pub argument : List Cell → Item → Result Cell ExecFault
argument row (item.Count e) = value row e
argument row (item.Sum e) = value row e
argument row (item.Min e) = value row e
argument row (item.Max e) = value row e
argument row (item.Plain _) = Ok cell.Null
argument row item.CountAll = Ok cell.Null

-- a row with the arguments of the items on it
pub record RowWithArguments : Type 0 where
  pub row : List Cell
  pub arguments : List Cell

-- a row, whose arguments are evaluated from left to right
abbrev pub with_arguments : List Item → List Cell → Result RowWithArguments ExecFault
with_arguments items row = each (argument row) items >>= λ arguments. Ok (record { row = row; arguments = arguments })

-- ---- groups

-- the cells of a row in the columns of GROUP BY
abbrev pub group_cells : List ℕ → List Cell → List Cell
group_cells columns row = map (cell_at row) columns

-- the distinct cells of rows in the columns of GROUP BY, in rising order; NULL is equal to NULL
abbrev pub distinct_cells : List ℕ → List RowWithArguments → List (List Cell)
distinct_cells columns [] = []
distinct_cells columns (r ∷ rest) = insert_key cells_cmp (distinct_cells columns rest) (group_cells columns r.row)

-- the rows whose cells in the columns of GROUP BY are these
abbrev pub group_of : List ℕ → List RowWithArguments → List Cell → List RowWithArguments
group_of columns rows cells = filter (λ r. is_eq (cells_cmp (group_cells columns r.row) cells)) rows

-- the groups of rows, in the order of their cells; without GROUP BY there is one, also of no rows
abbrev pub groups_of : List ℕ → List RowWithArguments → List (List RowWithArguments)
groups_of [] rows = rows ∷ []
groups_of (column ∷ columns) rows = map (group_of (column ∷ columns) rows) (distinct_cells (column ∷ columns) rows)

-- ---- aggregates

-- the arguments of the item at a place, in the order of the rows, without NULL
abbrev pub arguments_without_null : ℕ → List RowWithArguments → List Cell
arguments_without_null place rows = filter (λ c. not (is_null c)) (map (λ r. cell_at r.arguments place) rows)

-- the number that a cell is, and 0 for what is none
abbrev pub integer : Cell → ℤ
integer (cell.Int n) = n
integer _ = pos 0

-- the whole sum
abbrev pub sum_of : List Cell → ℤ
sum_of [] = pos 0
sum_of (c ∷ cs) = integer c +ℤ sum_of cs

-- SUM: NULL of nothing, and at fault exactly where the whole sum is no i64
abbrev pub sum_cell : List Cell → Result Cell ExecFault
sum_cell [] = Ok cell.Null
sum_cell (c ∷ cs) = in_statement (number (sum_of (c ∷ cs)))

-- the least of some cells, and the greatest; NULL of none
abbrev pub least : List Cell → Cell
least cells = unwrap_or (reduce (λ a b. min_by_ordering (cell_cmp a b) a b) cells) cell.Null

abbrev pub greatest : List Cell → Cell
greatest cells = unwrap_or (reduce (λ a b. max_by_ordering (cell_cmp a b) a b) cells) cell.Null

-- the row that a plain item of a group is evaluated over: the first, since each has the same cells in the columns of
-- GROUP BY, and no other column stands in a plain item; a group of no rows has none
abbrev pub group_row : List RowWithArguments → List Cell
group_row [] = []
group_row (r ∷ _) = r.row

-- what the item at a place is for a group
abbrev pub item_cell : List RowWithArguments → ℕ → Item → Result Cell ExecFault
item_cell rows place (item.Plain e) = value (group_row rows) e
item_cell rows place item.CountAll = Ok (cell.Int (pos (length rows)))
item_cell rows place (item.Count _) = Ok (cell.Int (pos (length (arguments_without_null place rows))))
item_cell rows place (item.Sum _) = sum_cell (arguments_without_null place rows)
item_cell rows place (item.Min _) = Ok (least (arguments_without_null place rows))
item_cell rows place (item.Max _) = Ok (greatest (arguments_without_null place rows))
