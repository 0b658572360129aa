-- Bound statements.
use Rattle.std.specs.Prelude.{Bool, true, false, Result, Err}
use Rattle.geo_schema.specs.Schemas.{Tables}
use Rattle.sql_ast.specs.declared.statement.Statement.{Statement}
use Rattle.sql_ast.specs.declared.statement.Statement.TheVariants as statement
use Rattle.sql_bind.specs.declared.bound.Bound.{Bound}
use Rattle.sql_bind.specs.declared.bound.Bound.TheVariants as bound
use Rattle.sql_bind.specs.declared.fault.BindFault.{BindFault}
use Rattle.sql_bind.specs.declared.fault.BindFault.TheVariants as fault
use Rattle.sql_bind.specs.Deletes.{delete_of}
use Rattle.sql_bind.specs.Inserts.{insert_of}
use Rattle.sql_bind.specs.Selects.{select_of, lock_of}
use Rattle.sql_bind.specs.Steps.{◌<$>◌}
use Rattle.sql_bind.specs.Updates.{update_of}

-- the statement reads or writes tables: it doesn't begin or end a transaction
abbrev pub is_of_tables : Statement → Bool
is_of_tables statement.Begin = false
is_of_tables (statement.BeginAsOf _) = false
is_of_tables statement.Commit = false
is_of_tables statement.Rollback = false
is_of_tables _ = true

-- the bound statement, or the first refusal in the order of binding. What is answered for a statement that begins or ends a
-- transaction stands for nothing: each clause that cites this is of a statement of tables
abbrev pub bound_of : Tables → Statement → Result Bound BindFault
bound_of tables (statement.Select select) = bound.Select <$> select_of tables select
bound_of tables (statement.SelectForUpdate select) = bound.Lock <$> lock_of tables select
bound_of tables (statement.Insert insert) = bound.Insert <$> insert_of tables insert
bound_of tables (statement.Update update) = bound.Update <$> update_of tables update
bound_of tables (statement.Delete delete) = bound.Delete <$> delete_of tables delete
bound_of tables (statement.Explain select) = bound.Explain <$> select_of tables select
bound_of tables _ = Err fault.NoMemory
