-- What a statement that writes does: the changes that it makes to the rows that there are, which are the base with the
-- transaction's own net laid over it, and the net after them.
use Rattle.std.specs.Prelude.{◌≡◌, ◌⊎◌, ⊤, ℕ, ◌+◌, Bool, true, not, ◌&&◌, ◌||◌, nat_eq, if◌then◌else◌, Option, Some, None, Result, Ok, Err, List, [], ◌∷◌, ◌++◌, Contains, filter, length, map, position, slice_set, unwrap_or}
use Rattle.std.specs.List.{list_any, range_with_len}
use Rattle.std.specs.Option.{is_some, option_map, option_or}
use Rattle.geo_base.specs.Cells.{is_null}
use Rattle.geo_base.specs.Order.{row_eq}
use Rattle.geo_base.specs.Results.{◌>>=◌}
use Rattle.geo_base.specs.declared.cell.Cell.{Cell}
use Rattle.geo_base.specs.declared.cell.Cell.TheVariants as cell
use Rattle.geo_base.specs.declared.row_id.RowId.{RowId}
use Rattle.geo_schema.specs.declared.column.ColumnDef.{ColumnDef}
use Rattle.geo_schema.specs.declared.table.TableDef.{TableDef}
use Rattle.geo_schema.specs.Rows.{is_in, is_too_long, key_cells}
use Rattle.geo_schema.specs.Schemas.{Tables, table_at}
use Rattle.row_source.specs.Handing.{cell_at, row_named}
use Rattle.row_source.specs.Matches.{in_statement, kept_of, value}
use Rattle.row_source.specs.Sources.{Entry, of_table}
use Rattle.row_source.specs.declared.fault.ExecFault.{ExecFault}
use Rattle.row_source.specs.declared.fault.ExecFault.TheVariants as fault
use Rattle.sql_bind.specs.declared.bound.BoundDelete.{BoundDelete}
use Rattle.sql_bind.specs.declared.bound.BoundInsert.{BoundInsert}
use Rattle.sql_bind.specs.declared.bound.BoundSelect.{BoundSelect}
use Rattle.sql_bind.specs.declared.bound.BoundUpdate.{BoundUpdate}
use Rattle.sql_bind.specs.declared.bound.ExprRow.{ExprRow}
use Rattle.sql_bind.specs.declared.bound.SetTo.{SetTo}
use Rattle.sql_bind.specs.Steps.{each, each_behind}
use Rattle.sql_exec.specs.Answers.{answer_of}
use Rattle.sql_expr.specs.Conditions.{kept}
use Rattle.sql_expr.specs.declared.expr.Expr.{Expr}
use Rattle.write_set.specs.declared.change.Change.{Change}
use Rattle.write_set.specs.declared.change.Change.TheVariants.{Put, Remove, Touch}
use Rattle.write_set.specs.declared.row_change.RowChange.{RowChange}
use Rattle.write_set.specs.declared.set_fault.SetFault.TheVariants as limit
use Rattle.write_set.specs.Net.{HasNetCause, HasTouchesOf, IsNet, IsWithinLimits, change_in}
use Rattle.write_set.specs.Overlay.{Table, image_in, overlay}
use Rattle.write_set.specs.Sets.{ChangeOfRow, has_row}

-- ---- cells that fit their columns

-- what is wrong with the cell of the column at a place: NULL where none may be, and else a text that is too long; a bound
-- value is of its column's type
abbrev pub column_fault : TableDef → ℕ → ColumnDef → Cell → Option ExecFault
column_fault table place column c =
    if is_null c && (column.not_null || is_in table.key place) then Some (fault.NullNotAllowed column.name)
    else if is_too_long column.kind c then Some (fault.TextTooLong column.name)
    else None

-- what is wrong with the first of the cells that is at fault, from the column at a place on
abbrev pub first_column_fault : TableDef → ℕ → List ColumnDef → List Cell → Option ExecFault
first_column_fault table place [] cells = None
first_column_fault table place (column ∷ columns) [] = None
first_column_fault table place (column ∷ columns) (c ∷ cells) =
    option_or (column_fault table place column c) (first_column_fault table (place + 1) columns cells)

-- the cells, unless one of them is at fault
abbrev pub unless : Option ExecFault → List Cell → Result (List Cell) ExecFault
unless (Some e) cells = Err e
unless None cells = Ok cells

-- the cells of a row, tested in the order of the columns
abbrev pub fitting : TableDef → List Cell → Result (List Cell) ExecFault
fitting table cells = unless (first_column_fault table 0 table.columns cells) cells

-- ---- changes

-- what a statement makes of a row; `before` says whether the snapshot has it
abbrev pub change_of : Table → RowId → Change → RowChange
change_of base row change = record { row = row; before = is_some (image_in base row); change = change }

-- ---- INSERT

-- the cell of a column: the value that stands where the column is named, and NULL where it isn't
abbrev pub named_cell : List ℕ → List Cell → ℕ → Cell
named_cell places values column = unwrap_or (option_map (cell_at values) (position (nat_eq column) places)) cell.Null

-- the cells of a row in the order of the table's columns, by the values in the order of the named columns
abbrev pub inserted_cells : TableDef → List ℕ → List Cell → List Cell
inserted_cells table places values = map (named_cell places values) (range_with_len 0 (length table.columns))

-- the row is there already, or the statement has inserted it before
abbrev pub is_taken : Table → List RowChange → RowId → Bool
is_taken rows done row = is_some (image_in rows row) || list_any (λ c. row_eq row c.row) done

-- the change of a new row, where it isn't there already
abbrev pub inserted_row : Table → List ChangeOfRow → List RowChange → RowId → List Cell → Result RowChange ExecFault
inserted_row base own done row cells =
    if is_taken (overlay base own) done row then Err (fault.Duplicate row) else Ok (change_of base row (Put cells))

-- one row of an INSERT behind those before it: its values from left to right, then its cells, then its name
abbrev pub insert_one : Tables → BoundInsert → Table → List ChangeOfRow → List RowChange → ExprRow → Result RowChange ExecFault
insert_one tables insert base own done row =
    each (value []) row.values >>= λ values.
    fitting (table_at tables insert.table) (inserted_cells (table_at tables insert.table) insert.columns values) >>= λ cells.
    inserted_row base own done (row_named insert.table (key_cells (table_at tables insert.table) cells)) cells

-- the changes of an INSERT, its rows in the order in which they are written, or its first fault
unfoldable pub insert_changes : Tables → BoundInsert → Table → List ChangeOfRow → Result (List RowChange) ExecFault
insert_changes tables insert base own = each_behind (insert_one tables insert base own) [] insert.rows

-- ---- UPDATE

-- the cells with new ones in the columns that are set
abbrev pub with_set : List SetTo → List Cell → List Cell → List Cell
with_set [] values cells = cells
with_set (set ∷ sets) [] cells = cells
with_set (set ∷ sets) (v ∷ values) cells = with_set sets values (slice_set cells set.column v)

-- the change of a row that is kept: the values from left to right, over the row as it stood, and then its cells
abbrev pub update_one : Tables → BoundUpdate → Table → Entry → Result RowChange ExecFault
update_one tables update base entry =
    each (λ set. value entry.1 set.value) update.sets >>= λ values.
    fitting (table_at tables update.table) (with_set update.sets values entry.1) >>= λ cells.
    Ok (change_of base entry.0 (Put cells))

-- the changes of some rows, one row after another: its tests, and where they keep it, its change
abbrev pub updates_of : List Expr → (Entry → Result RowChange ExecFault) → Table → Result (List RowChange) ExecFault
updates_of tests make [] = Ok []
updates_of tests make (entry ∷ rows) =
    in_statement (kept entry.1 tests) >>= λ passes.
    (if passes then (make entry >>= λ c. Ok (c ∷ [])) else Ok []) >>= λ made.
    updates_of tests make rows >>= λ rest. Ok (made ++ rest)

-- the changes of an UPDATE, its rows in the order of their keys as they stood before it, or its first fault
unfoldable pub update_changes : Tables → BoundUpdate → Table → List ChangeOfRow → Result (List RowChange) ExecFault
update_changes tables update base own =
    updates_of update.tests (update_one tables update base) (of_table update.table (overlay base own))

-- ---- DELETE and FOR UPDATE

-- the rows of a table that the tests keep, or the first fault
abbrev pub kept_entries : List Expr → ℕ → Table → List ChangeOfRow → Result Table ExecFault
kept_entries tests table base own = kept_of (λ entry. entry.1) tests (of_table table (overlay base own))

-- the changes of a DELETE, or its first fault
unfoldable pub delete_changes : BoundDelete → Table → List ChangeOfRow → Result (List RowChange) ExecFault
delete_changes delete base own =
    kept_entries delete.tests delete.table base own >>= λ rows. Ok (map (λ entry. change_of base entry.0 Remove) rows)

-- the touches of those rows that the net lacks
abbrev pub touches_of : Table → List ChangeOfRow → Table → List RowChange
touches_of base own rows = map (λ entry. change_of base entry.0 Touch) (filter (λ entry. not (has_row entry.0 own)) rows)

-- the one table of a query that locks
abbrev pub locked_table : List ℕ → ℕ
locked_table [] = 0
locked_table (table ∷ _) = table

-- the lines of a query that locks, and the touches of all rows that its conditions keep, past LIMIT too; or its first fault
unfoldable pub lock_changes : BoundSelect → Table → List ChangeOfRow → Result (List (List Cell) × List RowChange) ExecFault
lock_changes query base own =
    answer_of query (overlay base own) >>= λ lines.
    kept_entries query.tests (locked_table query.tables) base own >>= λ rows. Ok (lines, touches_of base own rows)

-- ---- what a statement is refused for

-- a fault of a statement by itself: a limit is that of the net after it, and want of memory says nothing of it
abbrev pub IsOfStatement : ExecFault → Type 0
IsOfStatement fault.TooManyRows = ⊥
IsOfStatement fault.TooLarge = ⊥
IsOfStatement fault.NoMemory = ⊥
IsOfStatement _ = ⊤

-- a statement is refused for its first fault, and where it has none, for the limit that the net after its changes breaks
abbrev pub IsRefused : List ChangeOfRow → Result (List RowChange) ExecFault → ExecFault → Type 0
IsRefused own (Err e) f = f ≡ e
IsRefused own (Ok changes) fault.TooManyRows = HasNetCause own changes limit.TooManyRows
IsRefused own (Ok changes) fault.TooLarge = HasNetCause own changes limit.TooLarge
IsRefused own (Ok changes) _ = ⊥

-- ---- the net

-- each removed row of the net is one that the net before it removes, or one that a change says to be in the snapshot
abbrev pub HasRemovalsOf : List ChangeOfRow → List RowChange → List ChangeOfRow → Type 0
HasRemovalsOf own changes net = (row : RowId) → change_in net row ≡ Some Remove →
    (change_in own row ≡ Some Remove) ⊎ ((c : RowChange) × Contains changes c × (c.row ≡ row) × (c.before ≡ true))

-- the transaction's net after changes: no greater than it may be, and what it touches or removes it has touched or removed
-- before, or a change says that the snapshot has it
pub record IsNetAfter (own : List ChangeOfRow) (changes : List RowChange) (net : List ChangeOfRow) : Type 0 where
  pub is_net : IsNet own changes net
  pub touches : HasTouchesOf own changes net
  pub removals : HasRemovalsOf own changes net
  pub within : IsWithinLimits net

-- What a statement that writes does as a whole: how many rows it changes, and the transaction's net after them. Two calls give
-- it, one behind the other: that of the statement answers its changes or its first fault, and `apply_changes` makes the changes
-- in the net, or answers the limit that it would break.
abbrev pub IsDone : List ChangeOfRow → Result (List RowChange) ExecFault → ℕ → List ChangeOfRow → Type 0
IsDone own (Err e) changed net = ⊥
IsDone own (Ok changes) changed net = (changed ≡ length changes) × IsNetAfter own changes net

-- the same of a query that locks: its lines, and the net after its touches
abbrev pub IsLocked : List ChangeOfRow → Result (List (List Cell) × List RowChange) ExecFault → List (List Cell) → List ChangeOfRow → Type 0
IsLocked own (Err e) lines net = ⊥
IsLocked own (Ok made) lines net = (lines ≡ made.0) × IsNetAfter own made.1 net

-- the touches alone
abbrev pub touches_in : Result (List (List Cell) × List RowChange) ExecFault → Result (List RowChange) ExecFault
touches_in (Err e) = Err e
touches_in (Ok made) = Ok made.1
