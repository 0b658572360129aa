-- The items of a query.
use Rattle.std.specs.Prelude.{ℕ, Bool, true, false, ◌&&◌, nat_le, List, [], length, Result, Ok}
use Rattle.std.specs.List.{list_any}
use Rattle.geo_base.specs.declared.limits.TheConstants.{MAX_LINE_CELLS}
use Rattle.geo_base.specs.Results.{◌>>=◌}
use Rattle.geo_schema.specs.declared.column.ColumnDef.{ColumnDef}
use Rattle.geo_schema.specs.Schemas.{Tables}
use Rattle.sql_ast.specs.declared.select.AstItem.{AstItem}
use Rattle.sql_ast.specs.declared.select.AstValue.{AstValue}
use Rattle.sql_ast.specs.declared.select.AstValue.TheVariants as value
use Rattle.sql_ast.specs.declared.select.Items.{Items}
use Rattle.sql_ast.specs.declared.select.Items.TheVariants as items
use Rattle.sql_expr.specs.declared.expr.Expr.TheVariants as expr
use Rattle.sql_expr.specs.declared.value_type.ValueType.TheVariants as type
use Rattle.sql_bind.specs.declared.bound.Item.{Item}
use Rattle.sql_bind.specs.declared.bound.Item.TheVariants as item
use Rattle.sql_bind.specs.declared.fault.BindFault.{BindFault}
use Rattle.sql_bind.specs.declared.fault.BindFault.TheVariants as fault
use Rattle.sql_bind.specs.declared.scope.Scope.{Scope}
use Rattle.sql_bind.specs.Expressions.{of_any_type, taken_by}
use Rattle.sql_bind.specs.Names.{known_columns, is_allowed}
use Rattle.sql_bind.specs.Steps.{◌>>◌, ◌<$>◌, refused_unless, each, each_behind}

-- ---- aggregates

-- the value is an aggregate
abbrev pub is_aggregate : AstValue → Bool
is_aggregate (value.Plain _) = false
is_aggregate _ = true

-- one of the items is an aggregate
abbrev pub has_aggregate : Items → Bool
has_aggregate items.All = false
has_aggregate (items.List list) = list_any (λ i. is_aggregate i.value) list

-- ---- items that are written

-- an item: plain ones are bound where only columns of GROUP BY may stand, if the query is grouped, and the arguments
-- of aggregates where every column may; SUM takes numbers
abbrev pub item_of : Tables → Scope → Scope → AstValue → Result Item BindFault
item_of tables scope plain (value.Plain e) = item.Plain <$> of_any_type tables plain e
item_of tables scope plain value.CountAll = Ok item.CountAll
item_of tables scope plain (value.Count e) = item.Count <$> of_any_type tables scope e
item_of tables scope plain (value.Sum e) = item.Sum <$> taken_by type.Int tables scope e
item_of tables scope plain (value.Min e) = item.Min <$> of_any_type tables scope e
item_of tables scope plain (value.Max e) = item.Max <$> of_any_type tables scope e

-- ---- all columns

-- a column of `*`, which has to be one that may stand there; it is written by its name alone
abbrev pub star_item : Scope → ℕ → ColumnDef → Result Item BindFault
star_item plain place column = do
  refused_unless (is_allowed plain.group place) (fault.NotGrouped column.name)
  Ok (item.Plain (expr.Col place))

-- the next column, whose number is that of the columns before it
abbrev pub next_star : Scope → List Item → ColumnDef → Result Item BindFault
next_star plain before column = star_item plain (length before) column

-- all columns of the left table, and then those of the right one
abbrev pub star_of : Tables → Scope → Result (List Item) BindFault
star_of tables plain = do
  left ← each_behind (next_star plain) [] (known_columns tables plain.left)
  each_behind (next_star plain) left (known_columns tables plain.right)

-- ---- items

-- the items that are written
abbrev pub written_list : Tables → Scope → Scope → List AstItem → Result (List Item) BindFault
written_list tables scope plain list = each (λ i. item_of tables scope plain i.value) list

-- the items from left to right
abbrev pub listed : Tables → Scope → Scope → Items → Result (List Item) BindFault
listed tables scope plain items.All = star_of tables plain
listed tables scope plain (items.List list) = written_list tables scope plain list

-- the items, and then their number, which has to be that of the cells of a line
unfoldable pub items_of : Tables → Scope → Scope → Items → Result (List Item) BindFault
items_of tables scope plain list = do
  bound ← listed tables scope plain list
  refused_unless (nat_le 1 (length bound) && nat_le (length bound) MAX_LINE_CELLS) fault.WrongCount
  Ok bound
