-- Bound UPDATEs.
use Rattle.std.specs.Prelude.{ℕ, ◌==◌, Bool, List, [], Result, Ok}
use Rattle.std.specs.List.{list_any}
use Rattle.geo_base.specs.Results.{◌>>=◌}
use Rattle.geo_schema.specs.declared.column.ColumnDef.{ColumnDef}
use Rattle.geo_schema.specs.declared.table.TableDef.{TableDef}
use Rattle.geo_schema.specs.Rows.{is_in}
use Rattle.geo_schema.specs.Schemas.{Tables, table_at}
use Rattle.sql_ast.specs.declared.update.AstSet.{AstSet}
use Rattle.sql_ast.specs.declared.update.UpdateStmt.{UpdateStmt}
use Rattle.sql_bind.specs.declared.bound.BoundUpdate.{BoundUpdate}
use Rattle.sql_bind.specs.declared.bound.SetTo.{SetTo}
use Rattle.sql_bind.specs.declared.fault.BindFault.{BindFault}
use Rattle.sql_bind.specs.declared.fault.BindFault.TheVariants as fault
use Rattle.sql_bind.specs.declared.scope.Scope.{Scope}
use Rattle.sql_bind.specs.Conditions.{filter_of}
use Rattle.sql_bind.specs.Expressions.{taken_by}
use Rattle.sql_bind.specs.Names.{table_named, column_named, type_at, alone}
use Rattle.sql_bind.specs.Steps.{◌>>◌, refused_if, each_behind}

-- one of the sets is of the column
abbrev pub is_set : List SetTo → ℕ → Bool
is_set sets place = list_any (λ set. set.column == place) sets

-- a column of SET: the table has it, it isn't of the key, and it isn't set before
unfoldable pub column_behind : List ColumnDef → List ℕ → List SetTo → List ℕ → Result ℕ BindFault
column_behind columns key before name = do
  place ← column_named columns name
  refused_if (is_in key place) (fault.KeyColumn name)
  refused_if (is_set before place) (fault.Ambiguous name)
  Ok place

-- the column, then its value, and the value's type
unfoldable pub set_behind : Tables → Scope → TableDef → List SetTo → AstSet → Result SetTo BindFault
set_behind tables scope table before set = do
  place ← column_behind table.columns table.key before set.column
  value ← taken_by (type_at table.columns place) tables scope set.value
  Ok (record { column = place; value = value })

-- what is set, from left to right, and then WHERE, over the columns of the table with the number
unfoldable pub update_in : Tables → Scope → ℕ → UpdateStmt → Result BoundUpdate BindFault
update_in tables scope table update = do
  sets ← each_behind (set_behind tables scope (table_at tables table)) [] update.sets
  tests ← filter_of tables scope update.filter
  Ok (record { table = table; sets = sets; tests = tests })

-- an UPDATE: the table; what is set; WHERE
unfoldable pub update_of : Tables → UpdateStmt → Result BoundUpdate BindFault
update_of tables update = do
  table ← table_named tables update.table
  update_in tables (alone update.table table) table update
