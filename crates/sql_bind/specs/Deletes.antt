-- Bound DELETEs.
use Rattle.std.specs.Prelude.{Result, Ok}
use Rattle.geo_base.specs.Results.{◌>>=◌}
use Rattle.geo_schema.specs.Schemas.{Tables}
use Rattle.sql_ast.specs.declared.delete.DeleteStmt.{DeleteStmt}
use Rattle.sql_bind.specs.declared.bound.BoundDelete.{BoundDelete}
use Rattle.sql_bind.specs.declared.fault.BindFault.{BindFault}
use Rattle.sql_bind.specs.Conditions.{filter_of}
use Rattle.sql_bind.specs.Names.{table_named, alone}

-- a DELETE: the table; WHERE
unfoldable pub delete_of : Tables → DeleteStmt → Result BoundDelete BindFault
delete_of tables delete = do
  table ← table_named tables delete.table
  tests ← filter_of tables (alone delete.table table) delete.filter
  Ok (record { table = table; tests = tests })
