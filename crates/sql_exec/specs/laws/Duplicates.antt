-- Laws: the row that an INSERT names as a duplicate is one of its table, and nothing else names one.
use Rattle.std.proofs.Common.{◌≡◌, ◌≢◌, ℕ, Bool, true, false, if◌then◌else◌, Some, List, [], ◌∷◌, IfErr, IfOk, Result, Ok, Err, refl, sym, ap, subst}
use Rattle.std.specs.Prelude.{⊤}
use Rattle.std.specs.List.{slice_get}
use Rattle.geo_base.specs.Cells.{has_type}
use Rattle.geo_base.specs.declared.cell.Cell.{Cell}
use Rattle.geo_base.specs.declared.row_id.RowId.{RowId}
use Rattle.geo_base.specs.declared.row_image.RowImage.{RowImage}
use Rattle.geo_schema.specs.declared.column.ColumnDef.{ColumnDef}
use Rattle.geo_schema.specs.declared.table.TableDef.{TableDef}
use Rattle.geo_schema.specs.laws.Numbers.{shown_is}
use Rattle.geo_schema.specs.Rows.{key_cells, type_of}
use Rattle.geo_schema.specs.Schemas.{IsSchema, IsTableNo, Tables, table_at}
use Rattle.group_exec.specs.Groups.{sum_cell}
use Rattle.row_source.specs.declared.fault.ExecFault.{ExecFault}
use Rattle.row_source.specs.declared.fault.ExecFault.TheVariants as fault
use Rattle.row_source.specs.Handing.{row_named}
use Rattle.row_source.specs.Matches.{in_statement, value}
use Rattle.row_source.specs.Sources.{Fits}
use Rattle.sql_bind.specs.declared.bound.BoundDelete.{BoundDelete}
use Rattle.sql_bind.specs.declared.bound.BoundInsert.{BoundInsert}
use Rattle.sql_bind.specs.declared.bound.BoundSelect.{BoundSelect}
use Rattle.sql_bind.specs.declared.bound.BoundUpdate.{BoundUpdate}
use Rattle.sql_bind.specs.declared.bound.ExprRow.{ExprRow}
use Rattle.sql_bind.specs.Names.{columns_of}
use Rattle.sql_bind.specs.Sound.{IsSoundInsert, IsSoundRow}
use Rattle.sql_bind.specs.Steps.{each}
use Rattle.sql_exec.specs.Answers.{answer_of}
use Rattle.sql_exec.specs.Effects.{IsRefused, change_of, delete_changes, fitting, insert_changes, insert_one, inserted_cells, is_taken, lock_changes, touches_in, update_changes}
use Rattle.sql_exec.specs.laws.Faults.{AreSuch, all_each, answered, behind, delete_such, fits, in_turn, lock_such, update_such}
use Rattle.sql_exec.specs.laws.Inserted as inserted
use Rattle.sql_expr.specs.Conditions.{kept}
use Rattle.sql_expr.specs.declared.expr.Expr.{Expr}
use Rattle.sql_expr.specs.declared.fault.EvalFault.{EvalFault}
use Rattle.sql_expr.specs.declared.fault.EvalFault.TheVariants as eval
use Rattle.sql_expr.specs.Values.{value_of}
use Rattle.write_set.specs.declared.change.Change.TheVariants.{Put}
use Rattle.write_set.specs.declared.row_change.RowChange.{RowChange}
use Rattle.write_set.specs.Overlay.{Table, overlay}
use Rattle.write_set.specs.Sets.{ChangeOfRow}

-- where the fault is a duplicate, its row is such a one
abbrev pub IfDuplicate : ExecFault → (RowId → Type 0) → Type 0
IfDuplicate (fault.Duplicate row) Is = Is row
IfDuplicate (fault.NullNotAllowed name) Is = ⊤
IfDuplicate fault.Overflow Is = ⊤
IfDuplicate fault.DivideByZero Is = ⊤
IfDuplicate (fault.TextTooLong name) Is = ⊤
IfDuplicate fault.ResultTooLong Is = ⊤
IfDuplicate fault.TooManyRows Is = ⊤
IfDuplicate fault.TooLarge Is = ⊤
IfDuplicate fault.NoMemory Is = ⊤

module _ (Is : RowId → Type 0) where
  abbrev IsSuch : ExecFault → Type 0
  IsSuch e = IfDuplicate e Is

  evaluated : {A : Type 0} (r : Result A EvalFault) → IfErr (in_statement r) IsSuch
  evaluated (Ok x) = tt
  evaluated (Err eval.Overflow) = tt
  evaluated (Err eval.DivideByZero) = tt
  evaluated (Err eval.NoMemory) = tt

  summed : (cells : List Cell) → IfErr (sum_cell cells) IsSuch
  summed [] = tt
  summed (c ∷ cells) = evaluated _

  -- no step names one
  no_step : AreSuch IsSuch
  no_step = record {
    of_value = λ row e. evaluated (value_of row e);
    of_tests = λ row tests. evaluated (kept row tests);
    of_sum = summed;
    null_cell = λ name. tt;
    long_text = λ name. tt;
    long_answer = tt;
  }

-- ---- INSERT

-- the row is one of the table, and some image fits under it
abbrev pub IsNameIn : Tables → ℕ → RowId → Type 0
IsNameIn tables number row = (row.table ≡ number) × ((image : RowImage) × Fits tables (row, image))

module _ (typed : (columns : List ColumnDef) (places : List ℕ) (row : ExprRow) (k place : ℕ) (column : ColumnDef) (e : Expr) → IsSoundRow columns places row →
    slice_get row.values k ≡ Some e → slice_get places k ≡ Some place → slice_get columns place ≡ Some column → IfOk (value_of [] e) (λ c. has_type (type_of column.kind) c ≡ true)) where
  module _ (tables : Tables) (insert : BoundInsert) (base : Table) (own : List ChangeOfRow) (is_table : IsTableNo tables insert.table) where
    abbrev table : TableDef
    table = table_at tables insert.table

    abbrev IsNamed : ExecFault → Type 0
    IsNamed e = IfDuplicate e (IsNameIn tables insert.table)

    taken : (b : Bool) (row : RowId) (c : RowChange) → IsNameIn tables insert.table row → IfErr (let r : Result RowChange ExecFault = (if b then Err (fault.Duplicate row) else Ok c) in r) IsNamed
    taken true row c is = is
    taken false row c is = tt

    one_inserted : (done : List RowChange) (row : ExprRow) → IsSoundRow table.columns insert.columns row → IfErr (insert_one tables insert base own done row) IsNamed
    one_inserted done row sound =
        in_turn IsNamed (each (value []) row.values) _ (all_each IsNamed (value []) ((no_step (IsNameIn tables insert.table)).of_value []) row.values)
        (λ values valued. in_turn IsNamed (fitting table (inserted_cells table insert.columns values)) _ (fits IsNamed (no_step (IsNameIn tables insert.table)) table (inserted_cells table insert.columns values))
        (λ cells made.
        let is_row = inserted.cells_fit typed tables insert base own is_table row values cells sound valued made in
        taken (is_taken (overlay base own) done (row_named insert.table (key_cells table cells))) (row_named insert.table (key_cells table cells))
        (change_of base (row_named insert.table (key_cells table cells)) (Put cells))
        (refl, (cells, inserted.one_fits typed tables insert base own is_table cells is_row))))

  insert_such : (tables : Tables) (insert : BoundInsert) (base : Table) (own : List ChangeOfRow) → IsSchema tables → IsSoundInsert tables insert →
      IfErr (insert_changes tables insert base own) (λ e. IfDuplicate e (IsNameIn tables insert.table))
  unfolding insert_changes
  insert_such tables insert base own schema sound =
      behind (λ (e : ExecFault). IfDuplicate e (IsNameIn tables insert.table)) (IsSoundRow (columns_of tables insert.table) insert.columns) (insert_one tables insert base own)
      (one_inserted tables insert base own (shown_is tables insert.table schema sound.shown)) [] insert.rows sound.rows

  pub duplicate_named : (tables : Tables) (insert : BoundInsert) (base : Table) (own : List ChangeOfRow) (row : RowId) → IsSchema tables → IsSoundInsert tables insert →
      insert_changes tables insert base own ≡ Err (fault.Duplicate row) → (row.table ≡ insert.table) × ((image : RowImage) × Fits tables (row, image))
  duplicate_named tables insert base own row schema sound is =
      subst (λ (r : Result (List RowChange) ExecFault). IfErr r (λ e. IfDuplicate e (IsNameIn tables insert.table))) is (insert_such tables insert base own schema sound)

-- ---- who names one

none_named : {A : Type 0} (r : Result A ExecFault) (row : RowId) → IfErr r (λ e. IfDuplicate e (λ _. ⊥)) → r ≢ Err (fault.Duplicate row)
none_named {A} r row h is = subst (λ (s : Result A ExecFault). IfErr s (λ e. IfDuplicate e (λ _. ⊥))) is h

pub updates_name_none : (tables : Tables) (update : BoundUpdate) (base : Table) (own : List ChangeOfRow) (row : RowId) → update_changes tables update base own ≢ Err (fault.Duplicate row)
updates_name_none tables update base own row = none_named (update_changes tables update base own) row (update_such (λ e. IfDuplicate e (λ _. ⊥)) (no_step (λ _. ⊥)) tables update base own)

pub deletes_name_none : (delete : BoundDelete) (base : Table) (own : List ChangeOfRow) (row : RowId) → delete_changes delete base own ≢ Err (fault.Duplicate row)
deletes_name_none delete base own row = none_named (delete_changes delete base own) row (delete_such (λ e. IfDuplicate e (λ _. ⊥)) (no_step (λ _. ⊥)) delete base own)

pub locks_name_none : (query : BoundSelect) (base : Table) (own : List ChangeOfRow) (row : RowId) → touches_in (lock_changes query base own) ≢ Err (fault.Duplicate row)
locks_name_none query base own row = none_named (touches_in (lock_changes query base own)) row (lock_such (λ e. IfDuplicate e (λ _. ⊥)) (no_step (λ _. ⊥)) query base own)

pub answers_name_none : (query : BoundSelect) (rows : Table) (row : RowId) → answer_of query rows ≢ Err (fault.Duplicate row)
answers_name_none query rows row = none_named (answer_of query rows) row (answered (λ e. IfDuplicate e (λ _. ⊥)) (no_step (λ _. ⊥)) query rows)

-- a duplicate that a call answers is the fault of its changes
pub duplicate_told : (own : List ChangeOfRow) (made : Result (List RowChange) ExecFault) (row : RowId) → IsRefused own made (fault.Duplicate row) → made ≡ Err (fault.Duplicate row)
duplicate_told own (Ok changes) row h = absurd h
duplicate_told own (Err e) row h = ap (λ (f : ExecFault). Err f) (sym h)
