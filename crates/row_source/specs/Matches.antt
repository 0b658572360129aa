-- The rows of one table, or the pairs of rows of two, that the conditions of a statement keep.
use Rattle.std.specs.Prelude.{ℕ, if◌then◌else◌, Option, Some, None, Result, Ok, Err, List, [], ◌∷◌, ◌++◌, map}
use Rattle.std.specs.List.{flat_map}
use Rattle.geo_base.specs.Results.{◌>>=◌}
use Rattle.geo_base.specs.declared.cell.Cell.{Cell}
use Rattle.geo_base.specs.declared.row_image.RowImage.{RowImage}
use Rattle.row_source.specs.Sources.{images, of_table}
use Rattle.row_source.specs.declared.fault.ExecFault.{ExecFault}
use Rattle.row_source.specs.declared.fault.ExecFault.TheVariants as fault
use Rattle.row_source.specs.declared.pair.Pair.{Pair}
use Rattle.sql_expr.specs.declared.expr.Expr.{Expr}
use Rattle.sql_expr.specs.declared.fault.EvalFault.{EvalFault}
use Rattle.sql_expr.specs.declared.fault.EvalFault.TheVariants as eval
use Rattle.sql_expr.specs.Conditions.{kept}
use Rattle.sql_expr.specs.Values.{value_of}
use Rattle.write_set.specs.Overlay.{Table}

-- ---- faults of expressions are faults of statements

-- the same fault of a statement
abbrev pub fault_of : EvalFault → ExecFault
fault_of eval.Overflow = fault.Overflow
fault_of eval.DivideByZero = fault.DivideByZero
fault_of eval.NoMemory = fault.NoMemory

-- what an expression answers, as a statement answers it
abbrev pub in_statement : {A : Type 0} → Result A EvalFault → Result A ExecFault
in_statement (Ok x) = Ok x
in_statement (Err e) = Err (fault_of e)

-- the value of an expression over a row
abbrev pub value : List Cell → Expr → Result Cell ExecFault
value row e = in_statement (value_of row e)

-- ---- rows and pairs

-- a row of one table alone
abbrev pub alone : RowImage → Pair
alone row = record { left = row; right = None }

-- a row of the left table beside one of the right table
abbrev pub paired : RowImage → RowImage → Pair
paired left right = record { left = left; right = Some right }

-- the cells of the right row, where there is one
abbrev pub right_cells : Option RowImage → List Cell
right_cells None = []
right_cells (Some row) = row

-- the cells of a pair: those of the left row, and then those of the right one
abbrev pub pair_cells : Pair → List Cell
pair_cells pair = pair.left ++ right_cells pair.right

-- each left row with each right one
abbrev pub product : List RowImage → List RowImage → List Pair
product lefts rights = flat_map (λ left. map (paired left) rights) lefts

-- the rows of one table in the order of their keys, or the pairs of two in the order of left key and then right key
abbrev pub pairs_of : List ℕ → Table → List Pair
pairs_of [] rows = []
pairs_of (left ∷ []) rows = map alone (images (of_table left rows))
pairs_of (left ∷ right ∷ _) rows = product (images (of_table left rows)) (images (of_table right rows))

-- ---- conditions

-- those of some things that every test keeps, where a thing is seen as cells; one thing is tested after another, and a
-- fault of a test that is evaluated is the answer
abbrev pub kept_of : {X : Type 0} → (X → List Cell) → List Expr → List X → Result (List X) ExecFault
kept_of cells tests [] = Ok []
kept_of cells tests (x ∷ xs) =
    in_statement (kept (cells x) tests) >>= λ passes. kept_of cells tests xs >>= λ rest. Ok (if passes then x ∷ rest else rest)

-- the rows, or pairs of rows, that the conditions keep, or the first fault
unfoldable pub matches_of : List ℕ → List Expr → Table → Result (List Pair) ExecFault
matches_of tables tests rows = kept_of pair_cells tests (pairs_of tables rows)
