-- Bound queries.
use Rattle.std.specs.Prelude.{ℕ, ◌==◌, Bool, not, ◌||◌, if◌then◌else◌, Option, Some, None, is_some, List, [], ◌∷◌, ◌++◌, length, Result, Ok}
use Rattle.geo_base.specs.Order.{text_eq}
use Rattle.geo_base.specs.Results.{◌>>=◌}
use Rattle.geo_schema.specs.Rows.{is_in}
use Rattle.geo_schema.specs.Schemas.{Tables}
use Rattle.sql_ast.specs.declared.ast.ColRef.{ColRef}
use Rattle.sql_ast.specs.declared.select.JoinRef.{JoinRef}
use Rattle.sql_ast.specs.declared.select.SelectStmt.{SelectStmt}
use Rattle.sql_expr.specs.declared.expr.Expr.{Expr}
use Rattle.sql_bind.specs.declared.bound.BoundSelect.{BoundSelect}
use Rattle.sql_bind.specs.declared.fault.BindFault.{BindFault}
use Rattle.sql_bind.specs.declared.fault.BindFault.TheVariants as fault
use Rattle.sql_bind.specs.declared.scope.Known.{Known}
use Rattle.sql_bind.specs.declared.scope.Scope.{Scope}
use Rattle.sql_bind.specs.declared.select.Lines.{Lines}
use Rattle.sql_bind.specs.Conditions.{condition_of, filter_of}
use Rattle.sql_bind.specs.Items.{has_aggregate, items_of}
use Rattle.sql_bind.specs.Names.{known_of, column_meant, everywhere}
use Rattle.sql_bind.specs.Orders.{written_items, order_of}
use Rattle.sql_bind.specs.Steps.{◌>>◌, refused_if}

-- ---- tables

-- the table of JOIN, and none where there is none
abbrev pub second_of : Tables → Option JoinRef → Result (Option Known) BindFault
second_of tables None = Ok None
second_of tables (Some join) = do
  known ← known_of tables join.table
  Ok (Some known)

-- that the two are known by different names
abbrev pub different : Known → Option Known → Result (Unit {0}) BindFault
different left None = Ok tt
different left (Some right) = refused_if (text_eq left.name right.name) (fault.Ambiguous left.name)

-- the tables from left to right, and then that their names are two
unfoldable pub from_of : Tables → SelectStmt → Result Scope BindFault
from_of tables select = do
  left ← known_of tables select.left
  right ← second_of tables select.right
  different left right
  Ok (everywhere left right)

-- the conjuncts of ON, and none where there is no JOIN
abbrev pub on_of : Tables → Scope → Option JoinRef → Result (List Expr) BindFault
on_of tables scope None = Ok []
on_of tables scope (Some join) = condition_of tables scope join.on

-- ---- groups

-- a column once: where it stands among the earlier ones, it isn't added
abbrev pub once : List ℕ → ℕ → List ℕ
once group place = if is_in group place then group else group ++ place ∷ []

-- the columns of GROUP BY from left to right, behind earlier ones
abbrev pub group_behind : Tables → Scope → List ℕ → List ColRef → Result (List ℕ) BindFault
group_behind tables scope group [] = Ok group
group_behind tables scope group (column ∷ columns) = do
  found ← column_meant tables scope column
  group_behind tables scope (once group found.place) columns

-- the query has GROUP BY or an aggregate
abbrev pub is_grouped : SelectStmt → Bool
is_grouped select = not (length select.group == 0) || has_aggregate select.items

-- the columns of GROUP BY, if the query is grouped
abbrev pub only_group : Bool → List ℕ → Option (List ℕ)
only_group grouped group = if grouped then Some group else None

-- where plain items and the columns of ORDER BY stand: in a grouped query they are columns of GROUP BY
abbrev pub plain_scope : Bool → List ℕ → Scope → Scope
plain_scope grouped group scope = record { left = scope.left; right = scope.right; group = only_group grouped group }

-- ---- queries

-- the conjuncts of ON, and then those of WHERE
unfoldable pub tests_of : Tables → Scope → SelectStmt → Result (List Expr) BindFault
tests_of tables scope select = do
  on ← on_of tables scope select.right
  filter ← filter_of tables scope select.filter
  Ok (on ++ filter)

-- the number of a table, and none where it is missing
abbrev pub numbers_in : Option Known → List ℕ
numbers_in None = []
numbers_in (Some known) = known.table ∷ []

-- the numbers of the tables
abbrev pub numbers_of : Scope → List ℕ
numbers_of scope = numbers_in scope.left ++ numbers_in scope.right

-- the items, and then ORDER BY, where plain items and the columns of ORDER BY stand in the second scope
unfoldable pub lines_in : Tables → Scope → Scope → SelectStmt → Result Lines BindFault
lines_in tables scope plain select = do
  items ← items_of tables scope plain select.items
  order ← order_of tables plain (written_items select.items) select.order
  Ok (record { items = items; order = order })

-- the same behind the columns of GROUP BY
unfoldable pub lines_of : Tables → Scope → List ℕ → SelectStmt → Result Lines BindFault
lines_of tables scope group select = lines_in tables scope (plain_scope (is_grouped select) group scope) select

-- what stands behind the tables: ON, and then WHERE; GROUP BY; the items, and then ORDER BY
unfoldable pub query_in : Tables → Scope → SelectStmt → Result BoundSelect BindFault
query_in tables scope select = do
  tests ← tests_of tables scope select
  group ← group_behind tables scope [] select.group
  lines ← lines_of tables scope group select
  Ok (record {
    tables = numbers_of scope;
    tests = tests;
    grouped = is_grouped select;
    group = group;
    items = lines.items;
    order = lines.order;
    limit = select.limit;
  })

-- a query, whose refusals come in the order of these lines: of the tables, and then of what stands behind them
unfoldable pub select_of : Tables → SelectStmt → Result BoundSelect BindFault
select_of tables select = do
  scope ← from_of tables select
  query_in tables scope select

-- the same with FOR UPDATE, which may neither join nor group; that is tested last
unfoldable pub lock_of : Tables → SelectStmt → Result BoundSelect BindFault
lock_of tables select = do
  bound ← select_of tables select
  refused_if (is_some select.right || bound.grouped) fault.NotLockable
  Ok bound
