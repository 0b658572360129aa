-- What aggregates do with one argument after another.
use Rattle.std.specs.Prelude.{ℕ, if◌then◌else◌, Option, Some, None, Result, List}
use Rattle.std.specs.Ordering.{max_by_ordering, min_by_ordering}
use Rattle.geo_base.specs.Cells.{is_null}
use Rattle.geo_base.specs.Order.{cell_cmp}
use Rattle.geo_base.specs.Results.{◌>>=◌}
use Rattle.geo_base.specs.declared.cell.Cell.{Cell}
use Rattle.row_source.specs.Handing.{cell_at}
use Rattle.row_source.specs.declared.fault.ExecFault.{ExecFault}
use Rattle.sql_bind.specs.Steps.{each}
use Rattle.sql_bind.specs.declared.bound.BoundSelect.{BoundSelect}
use Rattle.group_exec.specs.Groups.{RowWithArguments, groups_of, with_arguments}
use Rattle.group_exec.specs.Results.{LineOfRow, group_line}

-- the cell, unless it is NULL
abbrev pub unless_null : Cell → Option Cell
unless_null c = if is_null c then None else Some c

-- the argument of the item at a place, unless it is NULL
abbrev pub argument_unless_null : ℕ → RowWithArguments → Option Cell
argument_unless_null place row = unless_null (cell_at row.arguments place)

-- the lesser of two cells, and the greater one
abbrev pub lesser : Cell → Cell → Cell
lesser a b = min_by_ordering (cell_cmp a b) a b

abbrev pub greater : Cell → Cell → Cell
greater a b = max_by_ordering (cell_cmp a b) a b

-- the lines of the groups of rows
abbrev pub grouped_lines : BoundSelect → List (List Cell) → Result (List LineOfRow) ExecFault
grouped_lines query rows = each (with_arguments query.items) rows >>= λ all. each (group_line query.items) (groups_of query.group all)
