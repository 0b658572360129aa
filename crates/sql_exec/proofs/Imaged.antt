-- The images of new rows and of changed ones, by the cells that their values are written into.
use Rattle.std.proofs.Common.{◌≡◌, inl, inr, ℕ, zero, suc, ◌+◌, ◌<◌, true, Some, Result, Ok, Err, List, [], ◌∷◌, ◌++◌, IfOk, length, map, refl, sym, ap, subst, subst₂, ◌∙◌, arith, length-append}
use Rattle.std.specs.List.{All, slice_get}
use Rattle.std.proofs.lemmas.List.{length-map}
use Rattle.std.proofs.lemmas.List.Elements.{All-head, All-tail, All-weaker}
use Rattle.std.proofs.lemmas.Option.{none-some}
use Rattle.geo_base.specs.Cells.{has_type}
use Rattle.geo_base.specs.Results.{◌>>=◌, Fails}
use Rattle.geo_base.specs.declared.cell.Cell.{Cell}
use Rattle.geo_schema.specs.Rows.{IsRow, type_of}
use Rattle.geo_schema.specs.Schemas.{Tables, table_at}
use Rattle.geo_schema.specs.declared.column.ColumnDef.{ColumnDef}
use Rattle.row_source.specs.Matches.{in_statement, value}
use Rattle.row_source.specs.declared.fault.ExecFault.{ExecFault}
use Rattle.row_source.specs.declared.fault.ExecFault.TheVariants as fault
use Rattle.sql_bind.specs.Names.{columns_of}
use Rattle.sql_bind.specs.Sound.{IsSoundInsert, IsSoundRow, IsSoundSet, IsSoundUpdate}
use Rattle.sql_bind.specs.Steps.{each, each_behind}
use Rattle.sql_bind.specs.declared.bound.BoundInsert.{BoundInsert}
use Rattle.sql_bind.specs.declared.bound.BoundUpdate.{BoundUpdate}
use Rattle.sql_bind.specs.declared.bound.ExprRow.{ExprRow}
use Rattle.sql_bind.specs.declared.bound.SetTo.{SetTo}
use Rattle.sql_exec.proofs.Written.{each_map, nulls_put, nulls_typed, sets_put, values_first, written_typed}
use Rattle.sql_exec.specs.Effects.{fitting, inserted_cells, with_set}
use Rattle.sql_exec.specs.inner.Fitting.{AreTyped, nulls, put_at, written}
use Rattle.sql_exec.specs.inner.Inserting.{new_image}
use Rattle.sql_exec.specs.inner.Updating.{set_image}
use Rattle.sql_expr.specs.declared.expr.Expr.{Expr}
use Rattle.sql_expr.specs.declared.fault.EvalFault.{EvalFault}
use Rattle.sql_expr.specs.Values.{value_of}

abbrev Answer : Type 0
Answer = Result (List Cell) ExecFault

-- what holds of a value where there is one
of_value : (P : Cell → Type 0) (r : Result Cell EvalFault) (v : Cell) → in_statement r ≡ Ok v → IfOk r P → P v
of_value P (Ok x) v is holds = subst P (let e : x ≡ v = cc in e) holds
of_value P (Err e) v is holds = absurd cc

-- each of the values, and then what is made of them
module _ (values : Answer) (seen made : List Cell → List Cell) (fit : List Cell → Answer) where
  same_made : ((v : List Cell) → values ≡ Ok v → seen v ≡ made v) → ((values >>= λ v. Ok (seen v)) >>= fit) ≡ (values >>= λ v. fit (made v))
  same_made same = by values refl
    where
      by : (r : Answer) → values ≡ r → ((r >>= λ v. Ok (seen v)) >>= fit) ≡ (r >>= λ v. fit (made v))
      by (Err e) is = refl
      by (Ok v) is = ap fit (same v is)

-- there are as many values as expressions
counted : {A : Type 0} (f : A → Result Cell ExecFault) (done : List Cell) (items : List A) (values : List Cell) → each_behind (λ _. f) done items ≡ Ok values →
    length values ≡ length done + length items
counted f done [] values is = let e : done ≡ values = cc in omega (arith, ap length e)
counted f done (item ∷ items) values is = by (f item) is (λ v so. counted f (done ++ v ∷ []) items values so)
  where
    by : (r : Result Cell ExecFault) → (r >>= λ next. each_behind (λ _. f) (done ++ next ∷ []) items) ≡ Ok values →
        ((v : Cell) → each_behind (λ _. f) (done ++ v ∷ []) items ≡ Ok values → length values ≡ length (done ++ v ∷ []) + length items) →
        length values ≡ length done + length (item ∷ items)
    by (Err e) so rest = absurd cc
    by (Ok v) so rest = let n : length (done ++ v ∷ []) ≡ length done + 1 = length-append done (v ∷ []) in omega (arith, rest v so)

-- ---- new rows

module _ (tables : Tables) (insert : BoundInsert) (row : ExprRow) (sound : IsSoundInsert tables insert) (sound_row : IsSoundRow (columns_of tables insert.table) insert.columns row) where
  abbrev columns : List ColumnDef
  columns = columns_of tables insert.table

  new_is : new_image tables insert row ≡ (written [] insert.columns row.values (nulls columns) >>= fitting (table_at tables insert.table))
  unfolding new_image
  new_is =
      sym
      (ap (λ (r : Answer). r >>= fitting (table_at tables insert.table)) (values_first [] insert.columns row.values (nulls columns) sound_row.count)
      ∙ same_made (each (value []) row.values) (λ v. put_at insert.columns v (nulls columns)) (inserted_cells (table_at tables insert.table) insert.columns)
      (fitting (table_at tables insert.table))
      (λ v is. let n : length v ≡ 0 + length row.values = counted (value []) [] row.values v is in
      let count = sound_row.count in
      nulls_put (table_at tables insert.table) insert.columns v sound.apart (omega arith) (λ k within. sound.columns k 0 within)))

  -- by the values that the calls were shown
  module _ (shown : List ColumnDef) (places : List ℕ) (exprs : List Expr) (same_columns : shown ≡ columns) (same_places : places ≡ insert.columns) (same_exprs : exprs ≡ row.values) where
    abbrev seen : Answer
    seen = written [] places exprs (nulls shown)

    meant : seen ≡ written [] insert.columns row.values (nulls columns)
    meant = (λ i. written [] (same_places i) (same_exprs i) (nulls (same_columns i)))

    new_fault : (e : ExecFault) → seen ≡ Err e → new_image tables insert row ≡ Err e
    new_fault e is = new_is ∙ ap (λ (r : Answer). r >>= fitting (table_at tables insert.table)) (sym meant ∙ is)

    pub new_fails : (e : ExecFault) → Fails fault.NoMemory e seen → Fails fault.NoMemory e (new_image tables insert row)
    new_fails e (inl lost) = inl lost
    new_fails e (inr is) = inr (new_fault e is)

    pub new_made : (cells : List Cell) → seen ≡ Ok cells → fitting (table_at tables insert.table) cells ≡ new_image tables insert row
    new_made cells is = sym (new_is ∙ ap (λ (r : Answer). r >>= fitting (table_at tables insert.table)) (sym meant ∙ is))

    pub new_typed : ((columns : List ColumnDef) (places : List ℕ) (row : ExprRow) (k place : ℕ) (column : ColumnDef) (e : Expr) →
        IsSoundRow columns places row → slice_get row.values k ≡ Some e → slice_get places k ≡ Some place → slice_get columns place ≡ Some column →
        IfOk (value_of [] e) (λ c. has_type (type_of column.kind) c ≡ true)) →
        (cells : List Cell) → seen ≡ Ok cells → AreTyped columns cells
    new_typed law cells is =
        written_typed [] columns insert.columns row.values (nulls columns) cells (sym meant ∙ is) (nulls_typed columns)
        (λ k place e column v hp he hc gives.
        of_value (λ (c : Cell). has_type (type_of column.kind) c ≡ true) (value_of [] e) v gives (law columns insert.columns row k place column e sound_row he hp hc))

-- ---- changed rows

-- the sets, seen as their columns and their values
sound_at : (tables : Tables) (table : ℕ) (sets : List SetTo) (k place : ℕ) (e : Expr) → All (IsSoundSet tables table) sets →
    slice_get (map (λ set. set.column) sets) k ≡ Some place → slice_get (map (λ set. set.value) sets) k ≡ Some e →
    (set : SetTo) × IsSoundSet tables table set × (set.column ≡ place) × (set.value ≡ e)
sound_at tables table [] k place e all hp he = absurd (none-some place hp)
sound_at tables table (set ∷ sets) zero place e all hp he =
    (set, All-head (IsSoundSet tables table) set sets all, (let p : set.column ≡ place = cc in p), (let p : set.value ≡ e = cc in p))
sound_at tables table (set ∷ sets) (suc k) place e all hp he = sound_at tables table sets k place e (All-tail (IsSoundSet tables table) set sets all) hp he

module _ (tables : Tables) (update : BoundUpdate) (row : List Cell) (sound : IsSoundUpdate tables update) (is_row : IsRow (table_at tables update.table) row) where
  abbrev places : List ℕ
  places = map (λ set. set.column) update.sets

  abbrev exprs : List Expr
  exprs = map (λ set. set.value) update.sets

  set_is : set_image tables update row ≡ (written row places exprs row >>= fitting (table_at tables update.table))
  unfolding set_image
  set_is =
      ap (λ (r : Answer). r >>= λ v. fitting (table_at tables update.table) (with_set update.sets v row)) (each_map (λ (set : SetTo). set.value) (value row) [] update.sets)
      ∙ sym
      (ap (λ (r : Answer). r >>= fitting (table_at tables update.table)) (values_first row places exprs row (length-map update.sets (λ (set : SetTo). set.value) ∙ sym (length-map update.sets (λ (set : SetTo). set.column))))
      ∙ same_made (each (value row) exprs) (λ v. put_at places v row) (λ v. with_set update.sets v row) (fitting (table_at tables update.table)) (λ v is. sym (sets_put update.sets v row)))

  row_typed : AreTyped (columns_of tables update.table) row
  row_typed = record { count = is_row.count; types = λ place column c hc hx. let s = is_row.suits place column c hc hx in s.type }

  -- by the values that the calls were shown
  module _ (sets : List SetTo) (seen_row : List Cell) (same_sets : sets ≡ update.sets) (same_row : seen_row ≡ row) where
    abbrev set_seen : Answer
    set_seen = written seen_row (map (λ set. set.column) sets) (map (λ set. set.value) sets) seen_row

    set_meant : set_seen ≡ written row places exprs row
    set_meant = (λ i. written (same_row i) (map (λ set. set.column) (same_sets i)) (map (λ set. set.value) (same_sets i)) (same_row i))

    set_fault : (e : ExecFault) → set_seen ≡ Err e → set_image tables update row ≡ Err e
    set_fault e is = set_is ∙ ap (λ (r : Answer). r >>= fitting (table_at tables update.table)) (sym set_meant ∙ is)

    pub set_fails : (e : ExecFault) → Fails fault.NoMemory e set_seen → Fails fault.NoMemory e (set_image tables update row)
    set_fails e (inl lost) = inl lost
    set_fails e (inr is) = inr (set_fault e is)

    pub set_made : (cells : List Cell) → set_seen ≡ Ok cells → fitting (table_at tables update.table) cells ≡ set_image tables update row
    set_made cells is = sym (set_is ∙ ap (λ (r : Answer). r >>= fitting (table_at tables update.table)) (sym set_meant ∙ is))

    pub set_typed : ((tables : Tables) (table : ℕ) (set : SetTo) (row : List Cell) (column : ColumnDef) →
        IsSoundSet tables table set → IsRow (table_at tables table) row → slice_get (columns_of tables table) set.column ≡ Some column →
        IfOk (value_of row set.value) (λ c. has_type (type_of column.kind) c ≡ true)) →
        (cells : List Cell) → set_seen ≡ Ok cells → AreTyped (columns_of tables update.table) cells
    set_typed law cells is =
        written_typed row (columns_of tables update.table) places exprs row cells (sym set_meant ∙ is) row_typed
        (λ k place e column v hp he hc gives.
        let s = sound_at tables update.table update.sets k place e sound.sets hp he in
        of_value (λ (c : Cell). has_type (type_of column.kind) c ≡ true) (value_of row e) v gives
        (subst (λ (x : Expr). IfOk (value_of row x) (λ c. has_type (type_of column.kind) c ≡ true)) s.3
        (law tables update.table s.0 row column s.1 is_row (subst (λ (n : ℕ). slice_get (columns_of tables update.table) n ≡ Some column) (sym s.2) hc))))

    pub sets_within : All (λ set. set.column < length seen_row) sets
    sets_within =
        subst₂ (λ (r : List Cell) (l : List SetTo). All (λ set. set.column < length r) l) (sym same_row) (sym same_sets)
        (All-weaker (IsSoundSet tables update.table) (λ set. set.column < length row)
        (λ set s. let inside = s.column in let count = is_row.count in omega arith) update.sets sound.sets)
