-- Laws: the faults of a statement are those of its steps: of expressions and conditions, of cells that don't fit, of an answer that
-- is too long.
use Rattle.std.proofs.Common.{◌≡◌, ℕ, ◌+◌, Bool, true, false, ◌&&◌, ◌||◌, if◌then◌else◌, Option, Some, None, List, [], ◌∷◌, ◌++◌, map, length, nat_lt, All, IfErr, IfSome, Result, Ok, Err, refl}
use Rattle.std.specs.Prelude.{⊤}
use Rattle.std.specs.List.{enumerate_from}
use Rattle.std.specs.Option.{option_or}
use Rattle.std.proofs.lemmas.List.Elements.{All-head, All-tail}
use Rattle.geo_base.specs.Cells.{is_null}
use Rattle.geo_base.specs.Results.{◌>>=◌}
use Rattle.geo_base.specs.declared.cell.Cell.{Cell}
use Rattle.geo_base.specs.declared.row_id.RowId.{RowId}
use Rattle.geo_schema.specs.declared.column.ColumnDef.{ColumnDef}
use Rattle.geo_schema.specs.declared.table.TableDef.{TableDef}
use Rattle.geo_schema.specs.Rows.{is_in, is_too_long, key_cells}
use Rattle.geo_schema.specs.Schemas.{Tables, table_at}
use Rattle.group_exec.specs.Groups.{RowWithArguments, argument, arguments_without_null, group_row, groups_of, item_cell, sum_cell, with_arguments}
use Rattle.group_exec.specs.Results.{LineOfRow, cut, group_line, lines_from, ordered, plain_cell, result_of, row_line, within_limit}
use Rattle.group_exec.specs.declared.limits.TheConstants.{MAX_LINES}
use Rattle.row_source.specs.declared.fault.ExecFault.{ExecFault}
use Rattle.row_source.specs.declared.fault.ExecFault.TheVariants as fault
use Rattle.row_source.specs.Handing.{row_named}
use Rattle.row_source.specs.Matches.{in_statement, kept_of, matches_of, pair_cells, pairs_of, value}
use Rattle.row_source.specs.Sources.{Entry, of_table}
use Rattle.sql_bind.specs.declared.bound.BoundDelete.{BoundDelete}
use Rattle.sql_bind.specs.declared.bound.BoundInsert.{BoundInsert}
use Rattle.sql_bind.specs.declared.bound.BoundSelect.{BoundSelect}
use Rattle.sql_bind.specs.declared.bound.BoundUpdate.{BoundUpdate}
use Rattle.sql_bind.specs.declared.bound.ExprRow.{ExprRow}
use Rattle.sql_bind.specs.declared.bound.Item.{Item}
use Rattle.sql_bind.specs.declared.bound.Item.TheVariants as item
use Rattle.sql_bind.specs.declared.bound.SetTo.{SetTo}
use Rattle.sql_bind.specs.Steps.{each, each_behind}
use Rattle.sql_exec.specs.Answers.{answer_of}
use Rattle.sql_exec.specs.Effects.{change_of, column_fault, delete_changes, first_column_fault, fitting, insert_changes, insert_one, inserted_cells, is_taken, kept_entries, lock_changes, locked_table, touches_in, touches_of, unless, update_changes, update_one, updates_of, with_set}
use Rattle.sql_expr.specs.Conditions.{kept}
use Rattle.sql_expr.specs.declared.expr.Expr.{Expr}
use Rattle.write_set.specs.declared.change.Change.TheVariants.{Put}
use Rattle.write_set.specs.declared.row_change.RowChange.{RowChange}
use Rattle.write_set.specs.Overlay.{Table, overlay}
use Rattle.write_set.specs.Sets.{ChangeOfRow}

-- ---- faults of steps

module _ {E : Type 0} (IsSuch : E → Type 0) where
  -- the fault of two steps is that of the first, or where it went well that of the second
  pub in_turn : {A B : Type 0} (r : Result A E) (f : A → Result B E) → IfErr r IsSuch → ((x : A) → r ≡ Ok x → IfErr (f x) IsSuch) → IfErr (r >>= f) IsSuch
  in_turn (Ok x) f first second = second x refl
  in_turn (Err e) f first second = first

  -- that of a step for each item is that of one of them
  pub behind : {A B : Type 0} (Q : A → Type 0) (step : List B → A → Result B E) → ((done : List B) (x : A) → Q x → IfErr (step done x) IsSuch) →
      (done : List B) (items : List A) → All Q items → IfErr (each_behind step done items) IsSuch
  behind Q step such done [] q = tt
  behind Q step such done (x ∷ items) q =
      in_turn (step done x) (λ y. each_behind step (done ++ y ∷ []) items) (such done x (All-head Q x items q))
      (λ y h. behind Q step such (done ++ y ∷ []) items (All-tail Q x items q))

  pub all_each : {A B : Type 0} (f : A → Result B E) → ((x : A) → IfErr (f x) IsSuch) → (items : List A) → IfErr (each f items) IsSuch
  all_each f such items = behind (λ _. ⊤) (λ _. f) (λ done x q. such x) [] items (λ k d within. tt)

-- what the steps of statements answer is such a fault
pub record AreSuch (IsSuch : ExecFault → Type 0) : Type 0 where
  pub of_value : (row : List Cell) (e : Expr) → IfErr (value row e) IsSuch
  pub of_tests : (row : List Cell) (tests : List Expr) → IfErr (in_statement (kept row tests)) IsSuch
  pub of_sum : (cells : List Cell) → IfErr (sum_cell cells) IsSuch
  pub null_cell : (name : List ℕ) → IsSuch (fault.NullNotAllowed name)
  pub long_text : (name : List ℕ) → IsSuch (fault.TextTooLong name)
  pub long_answer : IsSuch fault.ResultTooLong

module _ (IsSuch : ExecFault → Type 0) (are : AreSuch IsSuch) where
  keeps : {X : Type 0} (cells : X → List Cell) (tests : List Expr) (xs : List X) → IfErr (kept_of cells tests xs) IsSuch
  keeps cells tests [] = tt
  keeps cells tests (x ∷ xs) =
      in_turn IsSuch (in_statement (kept (cells x) tests)) (λ passes. kept_of cells tests xs >>= λ rest. Ok (if passes then x ∷ rest else rest)) (are.of_tests (cells x) tests)
      (λ passes h. in_turn IsSuch (kept_of cells tests xs) (λ rest. Ok (if passes then x ∷ rest else rest)) (keeps cells tests xs) (λ rest k. tt))

  -- ---- cells that don't fit

  column : (table : TableDef) (place : ℕ) (d : ColumnDef) (c : Cell) → IfSome (column_fault table place d c) IsSuch
  column table place d c = by (is_null c && (d.not_null || is_in table.key place)) (is_too_long d.kind c)
    where
      by : (null long : Bool) → IfSome (if null then Some (fault.NullNotAllowed d.name) else if long then Some (fault.TextTooLong d.name) else None) IsSuch
      by true long = are.null_cell d.name
      by false true = are.long_text d.name
      by false false = tt

  either : (a b : Option ExecFault) → IfSome a IsSuch → IfSome b IsSuch → IfSome (option_or a b) IsSuch
  either None b h k = k
  either (Some e) b h k = h

  columns : (table : TableDef) (place : ℕ) (all : List ColumnDef) (cells : List Cell) → IfSome (first_column_fault table place all cells) IsSuch
  columns table place [] cells = tt
  columns table place (d ∷ all) [] = tt
  columns table place (d ∷ all) (c ∷ cells) =
      either (column_fault table place d c) (first_column_fault table (place + 1) all cells) (column table place d c) (columns table (place + 1) all cells)

  unfit : (o : Option ExecFault) (cells : List Cell) → IfSome o IsSuch → IfErr (unless o cells) IsSuch
  unfit None cells h = tt
  unfit (Some e) cells h = h

  pub fits : (table : TableDef) (cells : List Cell) → IfErr (fitting table cells) IsSuch
  fits table cells = unfit (first_column_fault table 0 table.columns cells) cells (columns table 0 table.columns cells)

  -- ---- queries

  asked : (row : List Cell) (i : Item) → IfErr (argument row i) IsSuch
  asked row (item.Count e) = are.of_value row e
  asked row (item.Sum e) = are.of_value row e
  asked row (item.Min e) = are.of_value row e
  asked row (item.Max e) = are.of_value row e
  asked row (item.Plain e) = tt
  asked row item.CountAll = tt

  with_all : (items : List Item) (row : List Cell) → IfErr (with_arguments items row) IsSuch
  with_all items row = in_turn IsSuch (each (argument row) items) (λ found. Ok (record { row = row; arguments = found })) (all_each IsSuch (argument row) (asked row) items) (λ found h. tt)

  grouped_item : (rows : List RowWithArguments) (place : ℕ) (i : Item) → IfErr (item_cell rows place i) IsSuch
  grouped_item rows place (item.Plain e) = are.of_value (group_row rows) e
  grouped_item rows place item.CountAll = tt
  grouped_item rows place (item.Count e) = tt
  grouped_item rows place (item.Sum e) = are.of_sum (arguments_without_null place rows)
  grouped_item rows place (item.Min e) = tt
  grouped_item rows place (item.Max e) = tt

  line_of_group : (items : List Item) (rows : List RowWithArguments) → IfErr (group_line items rows) IsSuch
  line_of_group items rows =
      in_turn IsSuch (each (λ (i : ℕ × Item). item_cell rows i.0 i.1) (enumerate_from 0 items)) _
      (all_each IsSuch (λ (i : ℕ × Item). item_cell rows i.0 i.1) (λ i. grouped_item rows i.0 i.1) (enumerate_from 0 items)) (λ line h. tt)

  plain_item : (row : List Cell) (i : Item) → IfErr (plain_cell row i) IsSuch
  plain_item row (item.Plain e) = are.of_value row e
  plain_item row item.CountAll = tt
  plain_item row (item.Count e) = tt
  plain_item row (item.Sum e) = tt
  plain_item row (item.Min e) = tt
  plain_item row (item.Max e) = tt

  line_of_row : (items : List Item) (row : List Cell) → IfErr (row_line items row) IsSuch
  line_of_row items row = in_turn IsSuch (each (plain_cell row) items) _ (all_each IsSuch (plain_cell row) (plain_item row) items) (λ line h. tt)

  all_lines : (query : BoundSelect) (rows : List (List Cell)) → IfErr (lines_from query rows) IsSuch
  all_lines query rows = by query.grouped
    where
      by : (grouped : Bool) →
          IfErr (if grouped then (each (with_arguments query.items) rows >>= λ all. each (group_line query.items) (groups_of query.group all)) else each (row_line query.items) rows) IsSuch
      by true =
          in_turn IsSuch (each (with_arguments query.items) rows) (λ all. each (group_line query.items) (groups_of query.group all)) (all_each IsSuch (with_arguments query.items) (with_all query.items) rows)
          (λ all h. all_each IsSuch (group_line query.items) (line_of_group query.items) (groups_of query.group all))
      by false = all_each IsSuch (row_line query.items) (line_of_row query.items) rows

  limited : (lines : List LineOfRow) → IfErr (within_limit lines) IsSuch
  limited lines = by (nat_lt MAX_LINES (length lines))
    where
      by : (long : Bool) → IfErr (let r : Result (List (List Cell)) ExecFault = (if long then Err fault.ResultTooLong else Ok (map (λ l. l.line) lines)) in r) IsSuch
      by true = are.long_answer
      by false = tt

  pub answered : (query : BoundSelect) (rows : Table) → IfErr (answer_of query rows) IsSuch
  unfolding answer_of matches_of result_of
  answered query rows =
      in_turn IsSuch (kept_of pair_cells query.tests (pairs_of query.tables rows)) (λ pairs. result_of query (map pair_cells pairs)) (keeps pair_cells query.tests (pairs_of query.tables rows))
      (λ pairs h. in_turn IsSuch (lines_from query (map pair_cells pairs)) (λ lines. within_limit (cut query.limit (ordered query.order lines))) (all_lines query (map pair_cells pairs))
      (λ lines k. limited (cut query.limit (ordered query.order lines))))

  -- ---- statements that write

  updated : (tests : List Expr) (make : Entry → Result RowChange ExecFault) → ((entry : Entry) → IfErr (make entry) IsSuch) → (rows : Table) → IfErr (updates_of tests make rows) IsSuch
  updated tests make such [] = tt
  updated tests make such (entry ∷ rows) =
      in_turn IsSuch (in_statement (kept entry.1 tests)) _ (are.of_tests entry.1 tests)
      (λ passes h. in_turn IsSuch (if passes then (make entry >>= λ c. Ok (c ∷ [])) else Ok []) _ (by passes)
      (λ made k. in_turn IsSuch (updates_of tests make rows) (λ rest. Ok (made ++ rest)) (updated tests make such rows) (λ rest l. tt)))
    where
      by : (passes : Bool) → IfErr (let r : Result (List RowChange) ExecFault = (if passes then (make entry >>= λ c. Ok (c ∷ [])) else Ok []) in r) IsSuch
      by true = in_turn IsSuch (make entry) (λ c. Ok (c ∷ [])) (such entry) (λ c h. tt)
      by false = tt

  one_updated : (tables : Tables) (update : BoundUpdate) (base : Table) (entry : Entry) → IfErr (update_one tables update base entry) IsSuch
  one_updated tables update base entry =
      in_turn IsSuch (each (λ set. value entry.1 set.value) update.sets) _ (all_each IsSuch (λ (set : SetTo). value entry.1 set.value) (λ set. are.of_value entry.1 set.value) update.sets)
      (λ values h. in_turn IsSuch (fitting (table_at tables update.table) (with_set update.sets values entry.1)) _ (fits (table_at tables update.table) (with_set update.sets values entry.1)) (λ cells k. tt))

  pub update_such : (tables : Tables) (update : BoundUpdate) (base : Table) (own : List ChangeOfRow) → IfErr (update_changes tables update base own) IsSuch
  unfolding update_changes
  update_such tables update base own = updated update.tests (update_one tables update base) (one_updated tables update base) (of_table update.table (overlay base own))

  pub delete_such : (delete : BoundDelete) (base : Table) (own : List ChangeOfRow) → IfErr (delete_changes delete base own) IsSuch
  unfolding delete_changes
  delete_such delete base own = in_turn IsSuch (kept_entries delete.tests delete.table base own) _ (keeps (λ (entry : Entry). entry.1) delete.tests (of_table delete.table (overlay base own))) (λ rows h. tt)

  touched : (made : Result (List (List Cell) × List RowChange) ExecFault) → IfErr made IsSuch → IfErr (touches_in made) IsSuch
  touched (Ok made) h = tt
  touched (Err e) h = h

  pub lock_such : (query : BoundSelect) (base : Table) (own : List ChangeOfRow) → IfErr (touches_in (lock_changes query base own)) IsSuch
  unfolding lock_changes
  lock_such query base own =
      touched (lock_changes query base own)
      (in_turn IsSuch (answer_of query (overlay base own)) (λ lines. kept_entries query.tests (locked_table query.tables) base own >>= λ rows. Ok (lines, touches_of base own rows)) (answered query (overlay base own))
      (λ lines h. in_turn IsSuch (kept_entries query.tests (locked_table query.tables) base own) _ (keeps (λ (entry : Entry). entry.1) query.tests (of_table (locked_table query.tables) (overlay base own)))
      (λ rows k. tt)))

  -- ---- INSERT

  module _ (tables : Tables) (insert : BoundInsert) (base : Table) (own : List ChangeOfRow) (named : (row : RowId) → IsSuch (fault.Duplicate row)) where
    abbrev table : TableDef
    table = table_at tables insert.table

    taken : (b : Bool) (row : RowId) (c : RowChange) → IfErr (let r : Result RowChange ExecFault = (if b then Err (fault.Duplicate row) else Ok c) in r) IsSuch
    taken true row c = named row
    taken false row c = tt

    one_inserted : (done : List RowChange) (row : ExprRow) → IfErr (insert_one tables insert base own done row) IsSuch
    one_inserted done row =
        in_turn IsSuch (each (value []) row.values) _ (all_each IsSuch (value []) (are.of_value []) row.values)
        (λ values valued. in_turn IsSuch (fitting table (inserted_cells table insert.columns values)) _ (fits table (inserted_cells table insert.columns values))
        (λ cells made. taken (is_taken (overlay base own) done (row_named insert.table (key_cells table cells))) (row_named insert.table (key_cells table cells))
        (change_of base (row_named insert.table (key_cells table cells)) (Put cells))))

    pub insert_such : IfErr (insert_changes tables insert base own) IsSuch
    unfolding insert_changes
    insert_such = behind IsSuch (λ _. ⊤) (insert_one tables insert base own) (λ done row q. one_inserted done row) [] insert.rows (λ k d within. tt)
