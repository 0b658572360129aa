-- Inner: tests of columns whose literals are borrowed, kinds of tests, and links, as the code holds them.
use Rattle.std.specs.Prelude.{ℕ, Bool, ◌&&◌, nat_eq, if◌then◌else◌, Option, Some, None, List}
use Rattle.std.specs.List.{filter_map}
use Rattle.sql_expr.specs.declared.expr.Expr.{Expr, out-Expr}
use Rattle.sql_expr.specs.declared.expr.Test.{Test}
use Rattle.sql_plan.specs.Plans.{is_equality, is_lower, is_upper}
use Rattle.sql_plan.specs.Tests as tests
use Rattle.sql_plan.specs.Tests.{column_test_in, counted_from, is_among}
use Rattle.sql_plan.specs.declared.links.Link.{Link}
use Rattle.sql_plan.specs.declared.tests.ColumnTest.{ColumnTest}
use Rattle.sql_plan.specs.declared.tests.TableTests.{TableTests}
use Rattle.sql_plan.specs.declared.tests.TestKind.{TestKind}
use Rattle.sql_plan.specs.declared.tests.TestKind.TheVariants as kind

-- the test with its literal
abbrev pub seen : ColumnTest → tests.ColumnTest
seen t = record { column = t.column; test = t.test; literal = t.literal.now }

-- a link as the definitions have it
abbrev pub seen_link : Link → tests.Link
seen_link l = record { left = l.left; right = l.right }

-- what a kind of tests says
abbrev pub said_by : TestKind → Test → Bool
said_by kind.Equality = is_equality
said_by kind.Lower = is_lower
said_by kind.Upper = is_upper

-- the test where its column is one of so many from a first one on, counted from there
abbrev pub placed : ℕ → ℕ → Option tests.ColumnTest → Option tests.ColumnTest
placed first count None = None
placed first count (Some t) = if is_among first count t then Some (counted_from first t) else None

-- the usable test of one table that an expression is
abbrev pub test_of : ℕ → ℕ → Expr → Option tests.ColumnTest
test_of first count e = placed first count (column_test_in (out-Expr e))

-- the usable tests of one table, in their order
unfoldable pub usable : TableTests → List tests.ColumnTest
usable t = filter_map (test_of t.first t.count) t.safe.now

-- the test, where it is one of the column that says such a thing
abbrev pub such : (Test → Bool) → ℕ → Option tests.ColumnTest → Option tests.ColumnTest
such says column None = None
such says column (Some t) = if nat_eq t.column column && says t.test then Some t else None
