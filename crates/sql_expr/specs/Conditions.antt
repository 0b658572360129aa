-- Which rows a list of conditions keeps.
use Rattle.std.specs.Prelude.{Bool, true, false, if◌then◌else◌, List, [], ◌∷◌, Result, Ok}
use Rattle.geo_base.specs.Results.{◌>>=◌}
use Rattle.geo_base.specs.declared.cell.Cell.{Cell}
use Rattle.geo_base.specs.declared.cell.Cell.TheVariants as cell
use Rattle.sql_expr.specs.declared.expr.Expr.{Expr}
use Rattle.sql_expr.specs.declared.fault.EvalFault.{EvalFault}
use Rattle.sql_expr.specs.Values.{value_of}

-- the cell is true, and neither false nor NULL
abbrev pub is_true : Cell → Bool
is_true (cell.Truth true) = true
is_true _ = false

-- The row passes every condition. It is dropped at the first that isn't true, and later ones aren't evaluated. A fault
-- of a condition that is evaluated is the answer.
abbrev pub kept : List Cell → List Expr → Result Bool EvalFault
kept row [] = Ok true
kept row (test ∷ tests) = value_of row test >>= λ value. if is_true value then kept row tests else Ok false
