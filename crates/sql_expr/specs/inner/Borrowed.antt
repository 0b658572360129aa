-- Inner: values whose texts are borrowed, as cells.
use Rattle.std.specs.Prelude.{◌≡◌, Result, Ok, Err, MatchResult}
use Rattle.geo_base.specs.declared.cell.Cell.{Cell}
use Rattle.geo_base.specs.declared.cell.Cell.TheVariants as cell
use Rattle.sql_expr.specs.declared.fault.EvalFault.{EvalFault}
use Rattle.sql_expr.specs.declared.value.Value.{Value}
use Rattle.sql_expr.specs.declared.value.Value.TheVariants as value

-- the cell that a value stands for
abbrev pub cell_of : Value → Cell
cell_of value.Null = cell.Null
cell_of (value.Int number) = cell.Int number
cell_of (value.Text text) = cell.Text text.now
cell_of (value.Truth truth) = cell.Truth truth

-- the answer is the value, seen as a cell, or the fault
abbrev pub Yields : Result Value EvalFault → Result Cell EvalFault → Type 0
Yields answer meant = MatchResult answer (λ v. meant ≡ Ok (cell_of v)) (λ e. meant ≡ Err e)
