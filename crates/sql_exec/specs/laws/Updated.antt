-- Laws: what a sound UPDATE puts are rows of its table in the place of those that are there.
use Rattle.std.proofs.Common.{◌≡◌, ◌≢◌, ◌⊎◌, inl, inr, ℕ, zero, suc, true, false, nat_eq, Some, IsSome, List, [], ◌∷◌, map, All, length, get_or, IfOk, Ok, refl, sym, ap, ◌∙◌, subst}
use Rattle.std.specs.Prelude.{slice_set}
use Rattle.std.specs.List.{AllZip, slice_get}
use Rattle.std.proofs.lemmas.Bool.{eq-eqb, false≢true}
use Rattle.std.proofs.lemmas.List.{get_or-set_other, length-set}
use Rattle.std.proofs.lemmas.List.Elements.{All-head, All-tail, All-weaker}
use Rattle.std.proofs.lemmas.Option.{same_Some}
use Rattle.geo_base.specs.Cells.{has_type}
use Rattle.geo_base.specs.Order.{row_cmp}
use Rattle.geo_base.specs.Results.{◌>>=◌}
use Rattle.geo_base.specs.declared.cell.Cell.{Cell}
use Rattle.geo_base.specs.declared.cell.Cell.TheVariants as cell
use Rattle.geo_base.specs.laws.Results.{bind_ok, ok_is}
use Rattle.geo_schema.specs.declared.column.ColumnDef.{ColumnDef}
use Rattle.geo_schema.specs.declared.table.TableDef.{TableDef}
use Rattle.geo_schema.specs.Rows.{IsRow, is_in, key_cells, type_of}
use Rattle.geo_schema.specs.Schemas.{Tables, table_at}
use Rattle.row_source.specs.Matches.{value}
use Rattle.row_source.specs.Sources.{AreRowsOf, Entry, Fits, of_table}
use Rattle.sql_bind.specs.declared.bound.BoundUpdate.{BoundUpdate}
use Rattle.sql_bind.specs.declared.bound.SetTo.{SetTo}
use Rattle.sql_bind.specs.Names.{columns_of}
use Rattle.sql_bind.specs.Sound.{IsSoundSet, IsSoundUpdate}
use Rattle.sql_bind.specs.Steps.{each}
use Rattle.sql_exec.specs.Changes.{AreChangesOfRows, IsPut, IsSoundChange}
use Rattle.sql_exec.specs.Effects.{change_of, fitting, update_changes, update_one, with_set}
use Rattle.sql_exec.specs.laws.Fitting.{AreOfTypes, fitted}
use Rattle.sql_exec.specs.laws.Parts.{all_made, each_gave, of_value, rising_made, updates_some}
use Rattle.sql_exec.specs.laws.Reading.{all_found, all_in_table, all_of_table, rises_in_table, some_found}
use Rattle.sql_exec.specs.laws.Sound.{put_is_sound}
use Rattle.sql_expr.specs.Values.{value_of}
use Rattle.write_set.specs.declared.change.Change.TheVariants.{Put}
use Rattle.write_set.specs.declared.row_change.RowChange.{RowChange}
use Rattle.write_set.specs.laws.Among.{or_false}
use Rattle.write_set.specs.Overlay.{Table, image_in, overlay}
use Rattle.write_set.specs.Sets.{ChangeOfRow}

-- ---- one cell is set

-- what stands in a list with a new item
set_get : (cells : List Cell) (place k : ℕ) (v c : Cell) → slice_get (slice_set cells place v) k ≡ Some c → ((k ≡ place) × (v ≡ c)) ⊎ (slice_get cells k ≡ Some c)
set_get [] place k v c h = inr h
set_get (x ∷ cells) zero zero v c h = inl (refl, same_Some v c h)
set_get (x ∷ cells) zero (suc k) v c h = inr h
set_get (x ∷ cells) (suc place) zero v c h = inr h
set_get (x ∷ cells) (suc place) (suc k) v c h =
    elim (set_get cells place k v c h) [
      | inl p ↦ inl (ap suc p.0, p.1)
      | inr there ↦ inr there
    ]

set_typed : (columns : List ColumnDef) (cells : List Cell) (place : ℕ) (v : Cell) → AreOfTypes columns cells →
    ((column : ColumnDef) → slice_get columns place ≡ Some column → has_type (type_of column.kind) v ≡ true) → AreOfTypes columns (slice_set cells place v)
set_typed columns cells place v typed new k column c here there =
    elim (set_get cells place k v c there) [
      | inl p ↦ subst (λ (x : Cell). has_type (type_of column.kind) x ≡ true) p.1 (new column (subst (λ (n : ℕ). slice_get columns n ≡ Some column) p.0 here))
      | inr old ↦ typed k column c here old
    ]

-- the cells at places that aren't set
same_at : (places : List ℕ) (cells : List Cell) (place : ℕ) (v : Cell) → is_in places place ≡ false →
    map (λ p. get_or (slice_set cells place v) p cell.Null) places ≡ map (λ p. get_or cells p cell.Null) places
same_at [] cells place v h = refl
same_at (p ∷ places) cells place v h =
    let apart = or_false (nat_eq p place) (is_in places place) h in
    let other : p ≢ place = λ e. false≢true (sym apart.0 ∙ eq-eqb p place e) in
    let first : get_or (slice_set cells place v) p cell.Null ≡ get_or cells p cell.Null = get_or-set_other cells place p v cell.Null other in
    let rest : map (λ q. get_or (slice_set cells place v) q cell.Null) places ≡ map (λ q. get_or cells q cell.Null) places = same_at places cells place v apart.1 in
    ap (λ (c : Cell). c ∷ map (λ q. get_or (slice_set cells place v) q cell.Null) places) first ∙ ap (λ (some : List Cell). get_or cells p cell.Null ∷ some) rest

key_stays : (table : TableDef) (cells : List Cell) (place : ℕ) (v : Cell) → is_in table.key place ≡ false → key_cells table (slice_set cells place v) ≡ key_cells table cells
unfolding key_cells
key_stays table cells place v h = same_at table.key cells place v h

-- ---- all cells that are set

module _ (updated : (tables : Tables) (table : ℕ) (set : SetTo) (row : List Cell) (column : ColumnDef) → IsSoundSet tables table set → IsRow (table_at tables table) row →
    slice_get (columns_of tables table) set.column ≡ Some column → IfOk (value_of row set.value) (λ c. has_type (type_of column.kind) c ≡ true)) where
  module _ (tables : Tables) (number : ℕ) (row : List Cell) (is_row : IsRow (table_at tables number) row) where
    abbrev table : TableDef
    table = table_at tables number

    -- cells that are of the types, as many as there are columns, with the row's key
    record IsLike (cells : List Cell) : Type 0 where
      pub count : length cells ≡ length table.columns
      pub typed : AreOfTypes table.columns cells
      pub key : key_cells table cells ≡ key_cells table row

    set_like : (set : SetTo) (v : Cell) (cells : List Cell) → IsSoundSet tables number set → value row set.value ≡ Ok v → IsLike cells → IsLike (slice_set cells set.column v)
    set_like set v cells sound gave like = record {
      count = length-set cells set.column v ∙ like.count;
      typed = set_typed table.columns cells set.column v like.typed
          (λ column here. of_value (λ c. has_type (type_of column.kind) c ≡ true) (value_of row set.value) v (updated tables number set row column sound is_row here) gave);
      key = key_stays table cells set.column v sound.not_key ∙ like.key;
    }

    all_like : (sets : List SetTo) (values cells : List Cell) → All (IsSoundSet tables number) sets → AllZip (λ set v. value row set.value ≡ Ok v) sets values → IsLike cells → IsLike (with_set sets values cells)
    all_like [] values cells sound gave like = like
    all_like (set ∷ sets) [] cells sound gave like = like
    all_like (set ∷ sets) (v ∷ values) cells sound gave like =
        all_like sets values (slice_set cells set.column v) (All-tail (IsSoundSet tables number) set sets sound) gave.1
        (set_like set v cells (All-head (IsSoundSet tables number) set sets sound) gave.0 like)

    row_like : IsLike row
    row_like = record { count = is_row.count; typed = λ k column c here there. (is_row.suits k column c here there).type; key = refl }

  -- ---- one row

  module _ (tables : Tables) (update : BoundUpdate) (base : Table) (own : List ChangeOfRow) (sound : IsSoundUpdate tables update) where
    -- what is known of a row of the table
    record IsOld (entry : Entry) : Type 0 where
      pub fits : Fits tables entry
      pub of_table : entry.0.table ≡ update.table
      pub there : IsSome (image_in (overlay base own) entry.0)

    -- and of its change
    record IsNew (c : RowChange) : Type 0 where
      pub lawful : IsSoundChange tables base c
      pub put : IsPut c.change
      pub of_table : c.row.table ≡ update.table
      pub there : IsSome (image_in (overlay base own) c.row)

    -- a change is of its row
    pub row_kept : (entry : Entry) (c : RowChange) → update_one tables update base entry ≡ Ok c → c.row ≡ entry.0
    row_kept entry c h =
        let values = bind_ok (each (λ set. value entry.1 set.value) update.sets)
        (λ vs. fitting (table_at tables update.table) (with_set update.sets vs entry.1) >>= λ cells. Ok (change_of base entry.0 (Put cells))) c h in
        let cells = bind_ok (fitting (table_at tables update.table) (with_set update.sets values.0 entry.1)) (λ cells. Ok (change_of base entry.0 (Put cells))) c values.2 in
        ap (λ (d : RowChange). d.row) (sym (ok_is (change_of base entry.0 (Put cells.0)) c cells.2))

    change_is : (entry : Entry) (c : RowChange) → IsOld entry → update_one tables update base entry ≡ Ok c → IsNew c
    change_is entry c old h =
        let number = update.table in
        let values = bind_ok (each (λ set. value entry.1 set.value) update.sets)
        (λ vs. fitting (table_at tables number) (with_set update.sets vs entry.1) >>= λ cells. Ok (change_of base entry.0 (Put cells))) c h in
        let cells = bind_ok (fitting (table_at tables number) (with_set update.sets values.0 entry.1)) (λ cells. Ok (change_of base entry.0 (Put cells))) c values.2 in
        let is_row : IsRow (table_at tables number) entry.1 = subst (λ (n : ℕ). IsRow (table_at tables n) entry.1) old.of_table old.fits.row in
        let like = all_like tables number entry.1 is_row update.sets values.0 entry.1 sound.sets (each_gave (λ set. value entry.1 set.value) update.sets values.0 values.1)
        (row_like tables number entry.1 is_row) in
        let fit = fitted (table_at tables number) (with_set update.sets values.0 entry.1) cells.0 like.count like.typed cells.1 in
        let back = sym old.of_table in
        let row : IsRow (table_at tables entry.0.table) cells.0 = subst (λ (n : ℕ). IsRow (table_at tables n) cells.0) back (subst (IsRow (table_at tables number)) fit.1 fit.0) in
        let key_here : key_cells (table_at tables number) cells.0 ≡ key_cells (table_at tables number) entry.1 =
        subst (λ (some : List Cell). key_cells (table_at tables number) some ≡ key_cells (table_at tables number) entry.1) fit.1 like.key in
        let key : key_cells (table_at tables entry.0.table) cells.0 ≡ entry.0.key =
        subst (λ (n : ℕ). key_cells (table_at tables n) cells.0 ≡ key_cells (table_at tables n) entry.1) back key_here ∙ old.fits.key in
        subst IsNew (ok_is (change_of base entry.0 (Put cells.0)) c cells.2) (record {
          lawful = put_is_sound tables base entry.0 cells.0 (record { is_table = old.fits.is_table; row = row; key = key });
          put = tt;
          of_table = old.of_table;
          there = old.there;
        })

    all_old : AreRowsOf tables (overlay base own) → All IsOld (of_table update.table (overlay base own))
    all_old rows =
        let fit = all_in_table (Fits tables) update.table (overlay base own) rows.fit in
        let named = all_of_table update.table (overlay base own) in
        let found = all_in_table (λ entry. image_in (overlay base own) entry.0 ≡ Some entry.1) update.table (overlay base own) (all_found (overlay base own) rows.rising) in
        λ k d within. record { fits = fit k d within; of_table = named k d within; there = some_found _ _ (found k d within) }

  -- ---- the whole

  pub updates_fit : (tables : Tables) (update : BoundUpdate) (base : Table) (own : List ChangeOfRow) (changes : List RowChange) → IsSoundUpdate tables update →
      AreRowsOf tables (overlay base own) → update_changes tables update base own ≡ Ok changes → AreChangesOfRows IsPut tables update.table base own changes
  unfolding update_changes
  updates_fit tables update base own changes sound rows h =
      let made = updates_some update.tests (update_one tables update base) (of_table update.table (overlay base own)) changes h in
      let new : All (IsNew tables update base own sound) changes =
      all_made (λ entry c. update_one tables update base entry ≡ Ok c) (IsOld tables update base own sound) (IsNew tables update base own sound) (change_is tables update base own sound)
      (of_table update.table (overlay base own)) changes (all_old tables update base own sound rows) made in
      record {
        sound = All-weaker (IsNew tables update base own sound) (IsSoundChange tables base) (λ c n. n.lawful) changes new;
        kind = All-weaker (IsNew tables update base own sound) (λ c. IsPut c.change) (λ c n. n.put) changes new;
        of_table = All-weaker (IsNew tables update base own sound) (λ c. c.row.table ≡ update.table) (λ c n. n.of_table) changes new;
        there = All-weaker (IsNew tables update base own sound) (λ c. IsSome (image_in (overlay base own) c.row)) (λ c n. n.there) changes new;
        rising = rising_made (λ entry c. update_one tables update base entry ≡ Ok c) row_cmp (λ entry. entry.0) (λ c. c.row) (row_kept tables update base own sound)
            (of_table update.table (overlay base own)) changes (rises_in_table update.table (overlay base own) rows.rising) made;
      }
