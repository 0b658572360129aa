-- What a query makes of the rows, or pairs of rows, that its conditions keep: lines, in order and cut.
use Rattle.std.specs.Prelude.{ℕ, nat_lt, if◌then◌else◌, Option, Some, None, Result, Ok, Err, List, [], ◌∷◌, length, map, take}
use Rattle.std.specs.List.{enumerate_from}
use Rattle.std.specs.Ordering.{is_gt, ordering_reverse, ordering_then}
use Rattle.std.specs.declared.cmp.Ordering.{Ordering}
use Rattle.std.specs.declared.cmp.Ordering.TheVariants.{Equal}
use Rattle.geo_base.specs.Order.{cell_cmp}
use Rattle.geo_base.specs.Results.{◌>>=◌}
use Rattle.geo_base.specs.declared.cell.Cell.{Cell}
use Rattle.geo_base.specs.declared.cell.Cell.TheVariants as cell
use Rattle.row_source.specs.declared.fault.ExecFault.{ExecFault}
use Rattle.row_source.specs.declared.fault.ExecFault.TheVariants as fault
use Rattle.row_source.specs.Handing.{cell_at}
use Rattle.row_source.specs.Matches.{value}
use Rattle.sql_bind.specs.declared.bound.BoundSelect.{BoundSelect}
use Rattle.sql_bind.specs.declared.bound.Item.{Item}
use Rattle.sql_bind.specs.declared.bound.Item.TheVariants as item
use Rattle.sql_bind.specs.declared.bound.Sort.{Sort}
use Rattle.sql_bind.specs.declared.bound.SortBy.{SortBy}
use Rattle.sql_bind.specs.declared.bound.SortBy.TheVariants as by
use Rattle.sql_bind.specs.Steps.{each}
use Rattle.group_exec.specs.declared.limits.TheConstants.{MAX_LINES}
use Rattle.group_exec.specs.Groups.{RowWithArguments, group_row, groups_of, item_cell, with_arguments}

-- ---- lines

-- a line, and the row by whose columns it may be sorted
pub record LineOfRow : Type 0 where
  pub line : List Cell
  pub row : List Cell

-- an item of a query that isn't grouped, over a row; such a query has plain items alone
abbrev pub plain_cell : List Cell → Item → Result Cell ExecFault
plain_cell row (item.Plain e) = value row e
plain_cell row _ = Ok cell.Null

-- the line of a row, its items evaluated from left to right
abbrev pub row_line : List Item → List Cell → Result LineOfRow ExecFault
row_line items row = each (plain_cell row) items >>= λ line. Ok (record { line = line; row = row })

-- the line of a group, its items evaluated from left to right
abbrev pub group_line : List Item → List RowWithArguments → Result LineOfRow ExecFault
group_line items rows =
    each (λ i. item_cell rows i.0 i.1) (enumerate_from 0 items) >>= λ line. Ok (record { line = line; row = group_row rows })

-- the lines of rows, one after another; those of groups come behind the arguments of all rows
abbrev pub lines_from : BoundSelect → List (List Cell) → Result (List LineOfRow) ExecFault
lines_from query rows =
    if query.grouped
    then (each (with_arguments query.items) rows >>= λ all. each (group_line query.items) (groups_of query.group all))
    else each (row_line query.items) rows

-- ---- order and limit

-- the cell that a line is sorted by
abbrev pub sort_cell : SortBy → LineOfRow → Cell
sort_cell (by.Item place) l = cell_at l.line place
sort_cell (by.Column place) l = cell_at l.row place

-- two lines by one column: NULL first, and DESC is the exact reverse
abbrev pub by_one : Sort → LineOfRow → LineOfRow → Ordering
by_one sort a b =
    if sort.descending then ordering_reverse (cell_cmp (sort_cell sort.by a) (sort_cell sort.by b))
    else cell_cmp (sort_cell sort.by a) (sort_cell sort.by b)

-- two lines by the columns in turn
abbrev pub by_all : List Sort → LineOfRow → LineOfRow → Ordering
by_all [] a b = Equal
by_all (sort ∷ sorts) a b = ordering_then (by_one sort a b) (by_all sorts a b)

-- a line put before the first that isn't less
abbrev pub put_in : List Sort → LineOfRow → List LineOfRow → List LineOfRow
put_in sorts l [] = l ∷ []
put_in sorts l (m ∷ ms) = if is_gt (by_all sorts l m) then m ∷ put_in sorts l ms else l ∷ m ∷ ms

-- the lines in the order of ORDER BY, where ties, and all lines without one, stay in the order of their keys or of their
-- groups' cells
abbrev pub ordered : List Sort → List LineOfRow → List LineOfRow
ordered sorts [] = []
ordered sorts (l ∷ rest) = put_in sorts l (ordered sorts rest)

-- the first lines, so many
abbrev pub cut : {A : Type 0} → Option ℕ → List A → List A
cut None lines = lines
cut (Some limit) lines = take limit lines

-- the lines, unless there are too many
abbrev pub within_limit : List LineOfRow → Result (List (List Cell)) ExecFault
within_limit lines = if nat_lt MAX_LINES (length lines) then Err fault.ResultTooLong else Ok (map (λ l. l.line) lines)

-- ---- the whole

-- what a query makes of the cells of the rows, or pairs of rows, that its conditions keep, or the first fault
unfoldable pub result_of : BoundSelect → List (List Cell) → Result (List (List Cell)) ExecFault
result_of query rows = lines_from query rows >>= λ lines. within_limit (cut query.limit (ordered query.order lines))
