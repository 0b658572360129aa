-- What a query sorts by.
use Rattle.std.specs.Prelude.{ℕ, ◌+◌, Bool, false, Option, Some, None, List, [], drop, position, Result, Ok}
use Rattle.std.specs.List.{list_any}
use Rattle.geo_base.specs.Order.{text_eq}
use Rattle.geo_base.specs.Results.{◌>>=◌}
use Rattle.geo_schema.specs.Schemas.{Tables}
use Rattle.sql_ast.specs.declared.ast.ColRef.{ColRef}
use Rattle.sql_ast.specs.declared.select.AstItem.{AstItem}
use Rattle.sql_ast.specs.declared.select.Items.{Items}
use Rattle.sql_ast.specs.declared.select.Items.TheVariants as items
use Rattle.sql_ast.specs.declared.select.OrderRef.{OrderRef}
use Rattle.sql_bind.specs.declared.bound.Sort.{Sort}
use Rattle.sql_bind.specs.declared.bound.SortBy.{SortBy}
use Rattle.sql_bind.specs.declared.bound.SortBy.TheVariants as by
use Rattle.sql_bind.specs.declared.fault.BindFault.{BindFault}
use Rattle.sql_bind.specs.declared.fault.BindFault.TheVariants as fault
use Rattle.sql_bind.specs.declared.scope.Scope.{Scope}
use Rattle.sql_bind.specs.Names.{column_meant}
use Rattle.sql_bind.specs.Steps.{◌>>◌, refused_if, each}

-- the name is that which AS gives
abbrev pub is_alias : List ℕ → Option (List ℕ) → Bool
is_alias name None = false
is_alias name (Some alias) = text_eq alias name

-- the item has the AS name
abbrev pub has_alias : List ℕ → AstItem → Bool
has_alias name item = is_alias name item.alias

-- the items of a list that is written; `*` has none
abbrev pub written_items : Items → List AstItem
written_items items.All = []
written_items (items.List list) = list

-- the first item with the AS name, which no later one may have too
abbrev pub only_item : List AstItem → List ℕ → Option ℕ → Result (Option ℕ) BindFault
only_item list name None = Ok None
only_item list name (Some place) = do
  refused_if (list_any (has_alias name) (drop (place + 1) list)) (fault.Ambiguous name)
  Ok (Some place)

-- the item that a column of ORDER BY means by its AS name, if there is one; a name behind that of a table means none
abbrev pub item_meant : List AstItem → Option (List ℕ) → List ℕ → Result (Option ℕ) BindFault
item_meant list (Some table) name = Ok None
item_meant list None name = only_item list name (position (has_alias name) list)

-- the item, if one is meant, and else the column
abbrev pub item_or_column : Tables → Scope → ColRef → Option ℕ → Result SortBy BindFault
item_or_column tables plain column (Some place) = Ok (by.Item place)
item_or_column tables plain column None = do
  found ← column_meant tables plain column
  Ok (by.Column found.place)

-- what one column of ORDER BY sorts by
unfoldable pub sort_of : Tables → Scope → List AstItem → OrderRef → Result Sort BindFault
sort_of tables plain list order = do
  item ← item_meant list order.column.table order.column.name
  by ← item_or_column tables plain order.column item
  Ok (record { by = by; descending = order.descending })

-- what a query sorts by
abbrev pub order_of : Tables → Scope → List AstItem → List OrderRef → Result (List Sort) BindFault
order_of tables plain list order = each (sort_of tables plain list) order
