-- The types of expressions, level by level: those of the operands, and then what the operator makes of them.
use Rattle.std.specs.Prelude.{Bool, true, false, ◌&&◌, ◌||◌, if◌then◌else◌, Option, Some, None, List, slice_get}
use Rattle.std.specs.Option.{option_and_then, option_map}
use Rattle.geo_base.specs.Cells as cells
use Rattle.geo_base.specs.Cells.{is_null}
use Rattle.geo_base.specs.declared.cell.Cell.{Cell}
use Rattle.geo_base.specs.declared.cell.Cell.TheVariants as cell
use Rattle.geo_base.specs.declared.cell_type.CellType.{CellType}
use Rattle.geo_base.specs.declared.cell_type.CellType.TheVariants as kind
use Rattle.sql_expr.specs.declared.expr.Expr.{Expr}
use Rattle.sql_expr.specs.declared.expr.Expr.TheOpen.{Expr-F}
use Rattle.sql_expr.specs.declared.expr.Expr.TheFolds.{fold-Expr}
use Rattle.sql_expr.specs.declared.value_type.ValueType.{ValueType}
use Rattle.sql_expr.specs.declared.value_type.ValueType.TheVariants as type

-- the type of a literal
abbrev pub literal_type : Cell → ValueType
literal_type cell.Null = type.Any
literal_type (cell.Int _) = type.Int
literal_type (cell.Text _) = type.Text
literal_type (cell.Truth _) = type.Truth

-- the type of the cells that are not NULL; Any has none
abbrev pub cell_type : ValueType → Option CellType
cell_type type.Int = Some kind.Int
cell_type type.Text = Some kind.Text
cell_type type.Truth = Some kind.Truth
cell_type type.Any = None

-- the cell is of the type of cells; where there is none, only NULL is
abbrev pub is_of : Option CellType → Cell → Bool
is_of (Some t) c = cells.has_type t c
is_of None c = is_null c

-- the cell is of the type: NULL is of each, and nothing else is of Any
abbrev pub has_type : ValueType → Cell → Bool
has_type t c = is_of (cell_type t) c

-- an operand of the second type may stand where the first is wanted: it is that one, or Any
abbrev pub takes : ValueType → ValueType → Bool
takes _ type.Any = true
takes type.Int type.Int = true
takes type.Text type.Text = true
takes type.Truth type.Truth = true
takes _ _ = false

-- the operand's wanted type, where the operand may stand there: minus gives a number, NOT a truth
abbrev pub one_operand : ValueType → ValueType → Option ValueType
one_operand wanted a = if takes wanted a then Some wanted else None

-- what an operator gives whose two operands are to be of a type: numbers give a number, and truths a truth
abbrev pub two_operands : ValueType → ValueType → ValueType → Option ValueType
two_operands wanted a b = if takes wanted a && takes wanted b then Some wanted else None

-- what a comparison gives: its operands are of one type, or one of them is of Any
abbrev pub comparison : ValueType → ValueType → Option ValueType
comparison a b = if takes a b || takes b a then Some type.Truth else None

-- the type that two operands' types make, where each has one
abbrev pub of_both : (ValueType → ValueType → Option ValueType) → Option ValueType → Option ValueType → Option ValueType
of_both rule a b = option_and_then (λ x. option_and_then (rule x) b) a

-- one level of an expression, with the types of its operands in their places
abbrev pub level_type : List ValueType → Expr-F (Option ValueType) → Option ValueType
level_type columns (Expr-F.Lit literal) = Some (literal_type literal)
level_type columns (Expr-F.Col place) = slice_get columns place
level_type columns (Expr-F.Neg a) = option_and_then (one_operand type.Int) a
level_type columns (Expr-F.Not a) = option_and_then (one_operand type.Truth) a
level_type columns (Expr-F.Arith _ a b) = of_both (two_operands type.Int) a b
level_type columns (Expr-F.Cmp _ a b) = of_both comparison a b
level_type columns (Expr-F.And a b) = of_both (two_operands type.Truth) a b
level_type columns (Expr-F.Or a b) = of_both (two_operands type.Truth) a b
level_type columns (Expr-F.IsNull a _) = option_map (λ _. type.Truth) a

-- the type of an expression over columns of these types; a column behind the last one has none, and neither has an
-- expression with an operand that its operator doesn't take
unfoldable pub type_of : List ValueType → Expr → Option ValueType
type_of columns = fold-Expr (Option ValueType) (level_type columns)

-- an expression that may be a condition
abbrev pub is_condition : ValueType → Bool
is_condition = takes type.Truth
