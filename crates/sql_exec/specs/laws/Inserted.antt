-- Laws: what a sound INSERT puts are rows of its table that aren't there.
use Rattle.std.proofs.Common.{◌≡◌, inl, inr, ℕ, ◌<◌, Bool, true, false, ◌||◌, nat_eq, Option, Some, None, unwrap_or, List, [], ◌∷◌, ◌++◌, map, position, length, get_or, IfOk, Ok, refl, sym, ap, ◌∙◌, subst, zero-add, eqb-true, arith}
use Rattle.std.specs.List.{AllZip, IsDistinct, list_any, range_with_len, slice_get}
use Rattle.std.specs.Option.{is_some, option_map}
use Rattle.std.proofs.lemmas.Bool.{false≢true}
use Rattle.std.proofs.lemmas.List.{map-append}
use Rattle.std.proofs.lemmas.List.Elements.{All-nil, All-push}
use Rattle.std.proofs.lemmas.List.FromFn.{get_or-map-range_with_len, length-map-range_with_len}
use Rattle.std.proofs.lemmas.Map.Keys.{IsDistinct-push}
use Rattle.std.proofs.lemmas.Option.{get_or_from_slice_get, slice_get-get_or, slice_get_cases, slice_get_within}
use Rattle.geo_base.specs.Cells.{has_type}
use Rattle.geo_base.specs.Order.{row_eq}
use Rattle.geo_base.specs.Results.{◌>>=◌}
use Rattle.geo_base.specs.declared.cell.Cell.{Cell}
use Rattle.geo_base.specs.declared.cell.Cell.TheVariants as cell
use Rattle.geo_base.specs.declared.row_id.RowId.{RowId}
use Rattle.geo_base.specs.declared.row_image.RowImage.{RowImage}
use Rattle.geo_base.specs.laws.Orders.{row_eq_equiv}
use Rattle.geo_base.specs.laws.Results.{bind_ok, ok_is, passed}
use Rattle.geo_schema.specs.declared.column.ColumnDef.{ColumnDef}
use Rattle.geo_schema.specs.declared.column.Kind.{Kind}
use Rattle.geo_schema.specs.declared.column.Kind.TheVariants as kind
use Rattle.geo_schema.specs.declared.table.TableDef.{TableDef}
use Rattle.geo_schema.specs.laws.Numbers.{shown_is}
use Rattle.geo_schema.specs.laws.Places.{found_at}
use Rattle.geo_schema.specs.Rows.{IsRow, key_cells, type_of}
use Rattle.geo_schema.specs.Schemas.{IsSchema, IsTableNo, Tables, table_at}
use Rattle.row_source.specs.declared.fault.ExecFault.TheVariants as fault
use Rattle.row_source.specs.Handing.{cell_at, row_named}
use Rattle.row_source.specs.Matches.{value}
use Rattle.row_source.specs.Sources.{Fits}
use Rattle.sql_bind.specs.declared.bound.BoundInsert.{BoundInsert}
use Rattle.sql_bind.specs.declared.bound.ExprRow.{ExprRow}
use Rattle.sql_bind.specs.Names.{columns_of}
use Rattle.sql_bind.specs.Sound.{IsSoundInsert, IsSoundRow}
use Rattle.sql_bind.specs.Steps.{each}
use Rattle.sql_exec.specs.Changes.{ArePutsOfNewRows, IsPut, IsSoundChange, rows_named}
use Rattle.sql_exec.specs.Effects.{change_of, fitting, insert_changes, insert_one, inserted_cells, inserted_row, is_taken, named_cell}
use Rattle.sql_exec.specs.laws.Fitting.{AreOfTypes, fitted}
use Rattle.sql_exec.specs.laws.Parts.{all_behind, each_gave, of_value, zip_at}
use Rattle.sql_exec.specs.laws.Sound.{put_is_sound}
use Rattle.sql_expr.specs.declared.expr.Expr.{Expr}
use Rattle.sql_expr.specs.Values.{value_of}
use Rattle.write_set.specs.declared.change.Change.TheVariants.{Put}
use Rattle.write_set.specs.declared.row_change.RowChange.{RowChange}
use Rattle.write_set.specs.laws.Among.{or_false}
use Rattle.write_set.specs.Overlay.{Table, image_in, overlay}
use Rattle.write_set.specs.Sets.{ChangeOfRow}

-- ---- the cells of a row

null_is_typed : (k : Kind) → has_type (type_of k) cell.Null ≡ true
null_is_typed kind.Int = refl
null_is_typed (kind.Text max) = refl
null_is_typed kind.Truth = refl

module _ (inserted : (columns : List ColumnDef) (places : List ℕ) (row : ExprRow) (k place : ℕ) (column : ColumnDef) (e : Expr) → IsSoundRow columns places row →
    slice_get row.values k ≡ Some e → slice_get places k ≡ Some place → slice_get columns place ≡ Some column → IfOk (value_of [] e) (λ c. has_type (type_of column.kind) c ≡ true)) where
  module _ (columns : List ColumnDef) (places : List ℕ) (row : ExprRow) (sound : IsSoundRow columns places row) (values : List Cell) (gave : AllZip (λ e v. value [] e ≡ Ok v) row.values values) where
    -- a column that is named has the value at its place
    named_typed : (place k : ℕ) (column : ColumnDef) → slice_get columns place ≡ Some column → position (nat_eq place) places ≡ Some k →
        has_type (type_of column.kind) (cell_at values k) ≡ true
    named_typed place k column here is =
        let first = found_at (nat_eq place) places k is in
        let count = sound.count in
        let named : slice_get places k ≡ Some place =
        slice_get-get_or places k 0 first.0 ∙ ap (λ (n : ℕ). Some n) (sym (eqb-true place (get_or places k 0) (first.1 0))) in
        elim (slice_get_cases row.values k).1 [
          | inl (e, within, there, same) ↦
              let v = zip_at (λ x y. value [] x ≡ Ok y) row.values values k e gave there in
              subst (λ (c : Cell). has_type (type_of column.kind) c ≡ true) (sym (get_or_from_slice_get values k v.0 cell.Null v.1))
              (of_value (λ c. has_type (type_of column.kind) c ≡ true) (value_of [] e) v.0 (inserted columns places row k place column e sound there named here) v.2)
          | inr (past, none) ↦ let within : k < length places = first.0 in absurd (omega arith)
        ]

    cell_typed : (place : ℕ) (column : ColumnDef) → slice_get columns place ≡ Some column → has_type (type_of column.kind) (named_cell places values place) ≡ true
    cell_typed place column here = by (position (nat_eq place) places) refl
      where
        by : (o : Option ℕ) → position (nat_eq place) places ≡ o → has_type (type_of column.kind) (unwrap_or (option_map (cell_at values) o) cell.Null) ≡ true
        by None is = null_is_typed column.kind
        by (Some k) is = named_typed place k column here is

    -- all cells are of their columns' types
    cells_typed : AreOfTypes columns (map (named_cell places values) (range_with_len 0 (length columns)))
    cells_typed k column c here there =
        let within : k < length columns = slice_get_within columns k column here in
        let same : get_or (map (named_cell places values) (range_with_len 0 (length columns))) k cell.Null ≡ named_cell places values k =
        get_or-map-range_with_len (named_cell places values) 0 (length columns) k k cell.Null within (zero-add k) in
        subst (λ (x : Cell). has_type (type_of column.kind) x ≡ true)
        (sym same ∙ get_or_from_slice_get (map (named_cell places values) (range_with_len 0 (length columns))) k c cell.Null there) (cell_typed k column here)

  -- ---- one row

  module _ (tables : Tables) (insert : BoundInsert) (base : Table) (own : List ChangeOfRow) (is_table : IsTableNo tables insert.table) where
    abbrev table : TableDef
    table = table_at tables insert.table

    -- the change of one row: what is put, and that it isn't there before
    record IsOne (done : List RowChange) (c : RowChange) : Type 0 where
      pub cells : List Cell
      pub row : IsRow table cells
      pub is : c ≡ change_of base (row_named insert.table (key_cells table cells)) (Put cells)
      pub free : is_taken (overlay base own) done (row_named insert.table (key_cells table cells)) ≡ false

    -- the cells of a row that fit are a row of the table
    pub cells_fit : (row : ExprRow) (values cells : List Cell) → IsSoundRow table.columns insert.columns row → each (value []) row.values ≡ Ok values →
        fitting table (inserted_cells table insert.columns values) ≡ Ok cells → IsRow table cells
    cells_fit row values cells sound valued made =
        let gave = each_gave (value []) row.values values valued in
        let fit = fitted table (inserted_cells table insert.columns values) cells (length-map-range_with_len (named_cell insert.columns values) 0 (length table.columns))
        (cells_typed table.columns insert.columns row sound values gave) made in
        subst (IsRow table) fit.1 fit.0

    one_is : (done : List RowChange) (row : ExprRow) (c : RowChange) → IsSoundRow table.columns insert.columns row → insert_one tables insert base own done row ≡ Ok c → IsOne done c
    one_is done row c sound h =
        let values = bind_ok (each (value []) row.values) (λ vs. fitting table (inserted_cells table insert.columns vs) >>= λ cells. inserted_row base own done (row_named insert.table (key_cells table cells)) cells) c h in
        let cells = bind_ok (fitting table (inserted_cells table insert.columns values.0)) (λ cells. inserted_row base own done (row_named insert.table (key_cells table cells)) cells) c values.2 in
        let free = passed (is_taken (overlay base own) done (row_named insert.table (key_cells table cells.0))) (fault.Duplicate (row_named insert.table (key_cells table cells.0)))
        (Ok (change_of base (row_named insert.table (key_cells table cells.0)) (Put cells.0))) c cells.2 in
        record {
          cells = cells.0;
          row = cells_fit row values.0 cells.0 sound values.1 cells.1;
          is = sym (ok_is (change_of base (row_named insert.table (key_cells table cells.0)) (Put cells.0)) c free.1);
          free = free.0;
        }

    not_some : (o : Option RowImage) → is_some o ≡ false → o ≡ None
    not_some None h = refl
    not_some (Some image) h = absurd (false≢true (sym h))

    any_named : (row : RowId) (done : List RowChange) → list_any (λ c. row_eq row c.row) done ≡ list_any (row_eq row) (rows_named done)
    any_named row [] = refl
    any_named row (c ∷ done) = ap (λ (b : Bool). row_eq row c.row || b) (any_named row done)

    pub one_fits : (cells : List Cell) → IsRow table cells → Fits tables (row_named insert.table (key_cells table cells), cells)
    one_fits cells row = record { is_table = is_table; row = row; key = refl }

    abbrev AreDone : List RowChange → Type 0
    AreDone = ArePutsOfNewRows tables insert.table base own

    none_done : AreDone []
    unfolding IsDistinct
    none_done = record {
      sound = All-nil (IsSoundChange tables base);
      puts = All-nil (λ c. IsPut c.change);
      of_table = All-nil (λ c. c.row.table ≡ insert.table);
      new = All-nil (λ c. image_in (overlay base own) c.row ≡ None);
      apart = tt;
    }

    -- one more
    one_done : (done : List RowChange) (row : ExprRow) (c : RowChange) → AreDone done → IsSoundRow table.columns insert.columns row → insert_one tables insert base own done row ≡ Ok c → AreDone (done ++ c ∷ [])
    one_done done row c before sound h =
        let one = one_is done row c sound h in
        let name = row_named insert.table (key_cells table one.cells) in
        let change = change_of base name (Put one.cells) in
        let free = or_false (is_some (image_in (overlay base own) name)) (list_any (λ d. row_eq name d.row) done) one.free in
        subst (λ (x : RowChange). AreDone (done ++ x ∷ [])) (sym one.is) (record {
          sound = All-push (IsSoundChange tables base) done change before.sound (put_is_sound tables base name one.cells (one_fits one.cells one.row));
          puts = All-push (λ d. IsPut d.change) done change before.puts tt;
          of_table = All-push (λ d. d.row.table ≡ insert.table) done change before.of_table refl;
          new = All-push (λ d. image_in (overlay base own) d.row ≡ None) done change before.new (not_some (image_in (overlay base own) name) free.0);
          apart = subst (IsDistinct row_eq) (sym (map-append (λ (d : RowChange). d.row) done (change ∷ [])))
              (IsDistinct-push row_eq_equiv (rows_named done) name before.apart (sym (any_named name done) ∙ free.1));
        })

  -- ---- the whole

  pub inserts_fit : (tables : Tables) (insert : BoundInsert) (base : Table) (own : List ChangeOfRow) (changes : List RowChange) → IsSchema tables → IsSoundInsert tables insert →
      insert_changes tables insert base own ≡ Ok changes → ArePutsOfNewRows tables insert.table base own changes
  unfolding insert_changes
  inserts_fit tables insert base own changes schema sound h =
      let is_table = shown_is tables insert.table schema sound.shown in
      all_behind (insert_one tables insert base own) (ArePutsOfNewRows tables insert.table base own) (IsSoundRow (columns_of tables insert.table) insert.columns)
      (one_done tables insert base own is_table) [] insert.rows changes (none_done tables insert base own is_table) sound.rows h
