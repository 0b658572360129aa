-- What only the bodies of this crate speak of: the steps of a query of one table that isn't grouped or sorted.
use Rattle.std.specs.Prelude.{ℕ, nat_lt, if◌then◌else◌, Option, Result, Ok, Err, List, ◌++◌, length}
use Rattle.geo_base.specs.Results.{◌>>=◌}
use Rattle.geo_base.specs.declared.cell.Cell.{Cell}
use Rattle.group_exec.specs.Results.{cut, plain_cell}
use Rattle.group_exec.specs.declared.limits.TheConstants.{MAX_LINES}
use Rattle.row_source.specs.Matches.{kept_of}
use Rattle.row_source.specs.declared.fault.ExecFault.{ExecFault}
use Rattle.row_source.specs.declared.fault.ExecFault.TheVariants as fault
use Rattle.sql_bind.specs.Steps.{each}
use Rattle.sql_bind.specs.declared.bound.Item.{Item}
use Rattle.sql_expr.specs.declared.expr.Expr.{Expr}

-- the line of a row
unfoldable pub line_over : List Item → List Cell → Result (List Cell) ExecFault
line_over items row = each (plain_cell row) items

-- the lines of rows, one after another
unfoldable pub lines_over : List Item → List (List Cell) → Result (List (List Cell)) ExecFault
lines_over items rows = each (line_over items) rows

-- the lines, unless there are too many
abbrev pub unless_too_long : List (List Cell) → Result (List (List Cell)) ExecFault
unless_too_long lines = if nat_lt MAX_LINES (length lines) then Err fault.ResultTooLong else Ok lines

-- the lines of rows that LIMIT leaves, unless there are too many
unfoldable pub limited_lines : List Item → Option ℕ → List (List Cell) → Result (List (List Cell)) ExecFault
limited_lines items limit rows = lines_over items rows >>= λ lines. unless_too_long (cut limit lines)

-- the rows that the tests keep
unfoldable pub kept_rows : List Expr → List (List Cell) → Result (List (List Cell)) ExecFault
kept_rows tests rows = kept_of (λ row. row) tests rows

-- rows that were kept before, and behind them those that the tests keep
unfoldable pub kept_behind : List Expr → List (List Cell) → List (List Cell) → Result (List (List Cell)) ExecFault
kept_behind tests done rows = kept_of (λ row. row) tests rows >>= λ more. Ok (done ++ more)

-- the lines of the rows that the tests keep, as many as LIMIT leaves
unfoldable pub plain_answer : List Item → Option ℕ → List Expr → List (List Cell) → Result (List (List Cell)) ExecFault
plain_answer items limit tests rows = kept_rows tests rows >>= λ kept. limited_lines items limit kept
