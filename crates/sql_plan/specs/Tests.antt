-- Which tests of a statement a plan may use.
use Rattle.std.specs.Prelude.{ℕ, ◌+◌, ◌-◌, Bool, true, false, not, ◌&&◌, ◌||◌, nat_le, nat_lt, if◌then◌else◌, Option, Some, None, List, filter, map}
use Rattle.std.specs.List.{filter_map, take_while}
use Rattle.geo_base.specs.Cells.{is_null}
use Rattle.geo_base.specs.declared.cell.Cell.{Cell}
use Rattle.sql_expr.specs.declared.expr.Expr.{Expr, out-Expr}
use Rattle.sql_expr.specs.declared.expr.Expr.TheFolds.{fold-Expr}
use Rattle.sql_expr.specs.declared.expr.Expr.TheOpen.{Expr-F}
use Rattle.sql_expr.specs.declared.expr.Test.{Test}
use Rattle.sql_expr.specs.declared.expr.Test.TheVariants as test

-- ---- safe tests

-- one level of an expression, with whether its operands calculate
abbrev pub level_calculates : Expr-F Bool → Bool
level_calculates (Expr-F.Lit _) = false
level_calculates (Expr-F.Col _) = false
level_calculates (Expr-F.Neg _) = true
level_calculates (Expr-F.Not a) = a
level_calculates (Expr-F.Arith _ _ _) = true
level_calculates (Expr-F.Cmp _ a b) = a || b
level_calculates (Expr-F.And a b) = a || b
level_calculates (Expr-F.Or a b) = a || b
level_calculates (Expr-F.IsNull a _) = a

-- the expression has arithmetic or a minus sign; that of a negative literal is none
unfoldable pub calculates : Expr → Bool
calculates = fold-Expr Bool level_calculates

-- the safe tests: those before the first that calculates, so none of them has a fault
abbrev pub safe_tests : List Expr → List Expr
safe_tests tests = take_while (λ e. not (calculates e)) tests

-- ---- tests of a column

-- a column that is compared with a literal
pub record ColumnTest : Type 0 where
  pub column : ℕ
  pub test : Test
  pub literal : Cell

-- the test of the two sides turned round
abbrev pub turned : Test → Test
turned test.Equal = test.Equal
turned test.Differ = test.Differ
turned test.Less = test.More
turned test.LessEqual = test.MoreEqual
turned test.More = test.Less
turned test.MoreEqual = test.LessEqual

-- the test says that two cells differ
abbrev pub is_difference : Test → Bool
is_difference test.Differ = true
is_difference _ = false

-- a test of a column is of use where the literal isn't NULL and the test no difference
abbrev pub column_test : Test → ℕ → Cell → Option ColumnTest
column_test t column literal =
    if is_difference t || is_null literal then None else Some (record { column = column; test = t; literal = literal })

-- a comparison of a column with a literal, written either way
abbrev pub compared_column : Test → Expr-F Expr → Expr-F Expr → Option ColumnTest
compared_column t (Expr-F.Col column) (Expr-F.Lit literal) = column_test t column literal
compared_column t (Expr-F.Lit literal) (Expr-F.Col column) = column_test (turned t) column literal
compared_column t _ _ = None

-- the test of a column that an expression is, if it is one of use
abbrev pub column_test_in : Expr-F Expr → Option ColumnTest
column_test_in (Expr-F.Cmp t a b) = compared_column t (out-Expr a) (out-Expr b)
column_test_in _ = None

-- the usable tests, in their order
unfoldable pub column_tests : List Expr → List ColumnTest
column_tests tests = filter_map (λ e. column_test_in (out-Expr e)) (safe_tests tests)

-- the column is one of so many from a first one on
abbrev pub is_among : ℕ → ℕ → ColumnTest → Bool
is_among first count t = nat_le first t.column && nat_lt t.column (first + count)

-- the test with its column counted from a first one on
abbrev pub counted_from : ℕ → ColumnTest → ColumnTest
counted_from first t = record { column = t.column - first; test = t.test; literal = t.literal }

-- the tests of a table whose columns are so many from a first one on, by their places in the table
abbrev pub tests_of : ℕ → ℕ → List ColumnTest → List ColumnTest
tests_of first count tests = map (counted_from first) (filter (is_among first count) tests)

-- ---- links of two tables

-- two columns that are equal: one of the left table, and one of the right table, by its place there
pub record Link : Type 0 where
  pub left : ℕ
  pub right : ℕ

-- the link that two columns make, if one is of the left table and one of the right table, which have so many
abbrev pub link_of : ℕ → ℕ → ℕ → ℕ → Option Link
link_of lefts rights a b =
    if nat_lt a lefts && (nat_le lefts b && nat_lt b (lefts + rights)) then Some (record { left = a; right = b - lefts })
    else if nat_lt b lefts && (nat_le lefts a && nat_lt a (lefts + rights)) then Some (record { left = b; right = a - lefts })
    else None

-- the link that a comparison is, where it says that two columns are equal
abbrev pub compared_columns : ℕ → ℕ → Test → Expr-F Expr → Expr-F Expr → Option Link
compared_columns lefts rights test.Equal (Expr-F.Col a) (Expr-F.Col b) = link_of lefts rights a b
compared_columns lefts rights _ _ _ = None

-- the link that an expression is, if it is one
abbrev pub link_in : ℕ → ℕ → Expr-F Expr → Option Link
link_in lefts rights (Expr-F.Cmp t a b) = compared_columns lefts rights t (out-Expr a) (out-Expr b)
link_in lefts rights _ = None

-- the usable links, in their order, where the two tables have so many columns
unfoldable pub links_of : ℕ → ℕ → List Expr → List Link
links_of lefts rights tests = filter_map (λ e. link_in lefts rights (out-Expr e)) (safe_tests tests)
