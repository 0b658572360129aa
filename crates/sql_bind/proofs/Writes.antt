-- Bound INSERTs, UPDATEs and DELETEs.
use Rattle.std.proofs.Common.{◌≡◌, ℕ, zero, suc, ◌+◌, ◌<◌, Bool, true, false, nat_eq, ◌==◌, Option, Some, None, List, [], ◌∷◌, ◌++◌, length, length-append, map, Result, Ok, refl, sym, ap, subst, ◌∙◌, inl, inr, arith}
use Rattle.std.specs.Prelude.{slice_get, slice_index_or, ok_or}
use Rattle.std.specs.List.{All, range_with_len}
use Rattle.std.proofs.lemmas.Bool.{eqb-true}
use Rattle.std.proofs.lemmas.Bool.Decides.{nat_tests}
use Rattle.std.proofs.lemmas.List.Elements.{All-nil, All-append}
use Rattle.std.proofs.lemmas.List.FromFn.{length-range_with_len, get_or-range_with_len}
use Rattle.std.proofs.lemmas.List.Quantifiers.{position-Some}
use Rattle.geo_base.specs.Order.{text_eq}
use Rattle.geo_base.specs.Results.{◌>>=◌}
use Rattle.geo_base.specs.laws.Results.{ok_is, bind_ok}
use Rattle.geo_schema.specs.declared.column.ColumnDef.{ColumnDef}
use Rattle.geo_schema.specs.declared.table.TableDef.{TableDef}
use Rattle.geo_schema.specs.Repeats.{AreApart}
use Rattle.geo_schema.specs.Rows.{is_in}
use Rattle.geo_schema.specs.Schemas.{Tables, table_at}
use Rattle.geo_schema.specs.Tables.{no_column}
use Rattle.sql_ast.specs.declared.ast.Ast.{Ast}
use Rattle.sql_ast.specs.declared.delete.DeleteStmt.{DeleteStmt}
use Rattle.sql_ast.specs.declared.insert.AstRow.{AstRow}
use Rattle.sql_ast.specs.declared.insert.InsertStmt.{InsertStmt}
use Rattle.sql_ast.specs.declared.update.AstSet.{AstSet}
use Rattle.sql_ast.specs.declared.update.UpdateStmt.{UpdateStmt}
use Rattle.sql_expr.specs.declared.expr.Expr.{Expr}
use Rattle.sql_expr.specs.declared.value_type.ValueType.{ValueType}
use Rattle.sql_expr.specs.declared.value_type.ValueType.TheVariants as type
use Rattle.sql_bind.specs.declared.bound.BoundDelete.{BoundDelete}
use Rattle.sql_bind.specs.declared.bound.BoundInsert.{BoundInsert}
use Rattle.sql_bind.specs.declared.bound.BoundUpdate.{BoundUpdate}
use Rattle.sql_bind.specs.declared.bound.ExprRow.{ExprRow}
use Rattle.sql_bind.specs.declared.bound.SetTo.{SetTo}
use Rattle.sql_bind.specs.declared.fault.BindFault.{BindFault}
use Rattle.sql_bind.specs.declared.fault.BindFault.TheVariants as fault
use Rattle.sql_bind.specs.declared.scope.Scope.{Scope}
use Rattle.sql_bind.specs.Conditions.{filter_of}
use Rattle.sql_bind.specs.Deletes.{delete_of}
use Rattle.sql_bind.specs.Expressions.{taken_by}
use Rattle.sql_bind.specs.Inserts.{listed_column, listed_columns, next_value, row_of, rows_of, insert_of}
use Rattle.sql_bind.specs.Names.{table_named, columns_of, type_at, place_named, column_named, alone, nowhere}
use Rattle.sql_bind.specs.Sound.{IsTypedFor, IsSoundRow, IsSoundInsert, IsSoundSet, same_set, IsSoundUpdate, IsSoundDelete}
use Rattle.sql_bind.specs.Steps.{◌>>◌, refused_if, refused_unless, each_behind}
use Rattle.sql_bind.specs.Updates.{is_set, column_behind, set_behind, update_in, update_of}
use Rattle.sql_bind.proofs.Lists.{All-one, all_made, kept, count, at_end, apart_more, apart_none}
use Rattle.sql_bind.proofs.Places.{all_below}
use Rattle.sql_bind.proofs.Queries.{missed, filter_tests}
use Rattle.sql_bind.proofs.Tables.{named_shown}
use Rattle.sql_bind.proofs.Typing.{taken_fits}

-- ---- columns that are named

pub column_within : (columns : List ColumnDef) (name : List ℕ) (place : ℕ) → column_named columns name ≡ Ok place → place < length columns
column_within columns name place h = by (place_named columns name) refl h
  where
    by : (o : Option ℕ) → place_named columns name ≡ o → (let r : Result ℕ BindFault = ok_or o (fault.NoColumn name) in r ≡ Ok place) → place < length columns
    by None is e = absurd cc
    by (Some n) is e = subst (λ (k : ℕ). k < length columns) (ok_is n place e) (position-Some (λ c. text_eq c.name name) columns n no_column is).0

-- the first places are apart
places_apart : (places : List ℕ) (n : ℕ) → places ≡ range_with_len 0 n → AreApart nat_eq places
places_apart places n is = subst (AreApart nat_eq) (sym is) (λ i j d before within.
    let few : j < n = omega (arith, length-range_with_len 0 n) in
    let left = get_or-range_with_len 0 n i d (omega arith) in
    let right = get_or-range_with_len 0 n j d few in
    grind (arith, nat_tests, left, right, before))

-- ---- INSERT

module _ (columns : List ColumnDef) where
  -- places of columns, none of them twice
  pub record ArePlaces (places : List ℕ) : Type 0 where
    pub within : All (λ place. place < length columns) places
    pub apart : AreApart nat_eq places

  place_kept : (before : List ℕ) (name : List ℕ) (place : ℕ) → ArePlaces before → listed_column columns before name ≡ Ok place → ArePlaces (before ++ place ∷ [])
  unfolding listed_column
  place_kept before name place good h =
      let p = bind_ok (column_named columns name) _ place h in
      let q = missed (is_in before p.0) (fault.Ambiguous name) p.0 place p.2 in
      subst (λ (n : ℕ). ArePlaces (before ++ n ∷ [])) q.1 (record {
        within = All-append (λ n. n < length columns) before (p.0 ∷ []) good.within (All-one (λ n. n < length columns) p.0 (column_within columns name p.0 p.1));
        apart = apart_more nat_eq before p.0 good.apart q.0;
      })

  pub places_good : (names : List (List ℕ)) (places : List ℕ) → listed_columns columns names ≡ Ok places → ArePlaces places
  unfolding listed_columns
  places_good [] places h =
      let is : places ≡ range_with_len 0 (length columns) = sym (ok_is (range_with_len 0 (length columns)) places h) in
      record { within = all_below places (length columns) is; apart = places_apart places (length columns) is }
  places_good (name ∷ names) places h =
      kept (listed_column columns) ArePlaces place_kept [] (name ∷ names) places (record { within = All-nil (λ n. n < length columns); apart = apart_none nat_eq }) h

types_at : (columns : List ColumnDef) (places : List ℕ) (k : ℕ) → k < length places → slice_index_or (map (type_at columns) places) k type.Any ≡ type_at columns (slice_index_or places k 0)
types_at columns [] k within = absurd (omega arith)
types_at columns (p ∷ places) zero within = refl
types_at columns (p ∷ places) (suc k) within = types_at columns places k (omega arith)

types_count : (columns : List ColumnDef) (places : List ℕ) → length (map (type_at columns) places) ≡ length places
types_count columns [] = refl
types_count columns (p ∷ places) = ap suc (types_count columns places)

module _ (tables : Tables) (columns : List ColumnDef) (places : List ℕ) where
  abbrev types : List ValueType
  types = map (type_at columns) places

  abbrev AreValues : List Expr → Type 0
  AreValues values = (k : ℕ) (e : Expr) → slice_get values k ≡ Some e → IsTypedFor (type_at columns (slice_index_or places k 0)) [] e

  value_added : (done : List Expr) (y : Expr) → AreValues done → IsTypedFor (type_at columns (slice_index_or places (length done) 0)) [] y → AreValues (done ++ y ∷ [])
  value_added done y all here k e h = elim (at_end done y e k h) [
    | inl p ↦ all k e p.1
    | inr p ↦ subst (λ (x : Expr). IsTypedFor (type_at columns (slice_index_or places k 0)) [] x) p.1 (subst (λ (n : ℕ). IsTypedFor (type_at columns (slice_index_or places n 0)) [] y) (sym p.0) here)
  ]

  values_good : (done : List Expr) (list : List Ast) (out : List Expr) → length done + length list ≡ length places → AreValues done → each_behind (next_value tables nowhere types) done list ≡ Ok out → AreValues out
  values_good done [] out n all h = subst AreValues (ok_is done out h) all
  values_good done (v ∷ list) out n all h =
      let p = bind_ok (next_value tables nowhere types done v) (λ next. each_behind (next_value tables nowhere types) (done ++ next ∷ []) list) out h in
      let within : length done < length places = omega arith in
      let taken = taken_fits tables nowhere (slice_index_or types (length done) type.Any) v p.0 p.1 in
      let here = subst (λ (t : ValueType). IsTypedFor t [] p.0) (types_at columns places (length done) within) taken in
      let one = length-append done (p.0 ∷ []) in
      values_good (done ++ p.0 ∷ []) list out (omega (arith, n, one)) (value_added done p.0 all here) p.2

  row_good : (row : AstRow) (out : ExprRow) → row_of tables nowhere types row ≡ Ok out → IsSoundRow columns places out
  unfolding row_of
  row_good row out h = by (length row.values == length types) refl h
    where
      by : (b : Bool) → (length row.values == length types) ≡ b →
          (let r : Result ExprRow BindFault = refused_unless b fault.WrongCount >> (each_behind (next_value tables nowhere types) [] row.values >>= λ values. Ok (record { values = values })) in r ≡ Ok out) →
          IsSoundRow columns places out
      by false is e = absurd cc
      by true is e =
          let p = bind_ok (each_behind (next_value tables nowhere types) [] row.values) (λ values. Ok (record { values = values })) out e in
          let same : length row.values ≡ length places = eqb-true (length row.values) (length types) is ∙ types_count columns places in
          let made = count (next_value tables nowhere types) [] row.values p.0 p.1 in
          subst (IsSoundRow columns places) (ok_is (record { values = p.0 }) out p.2) (record {
            count = omega (arith, made, same);
            values = values_good [] row.values p.0 (omega (arith, same)) (λ k x e. absurd cc) p.1;
          })

  pub rows_good : (rows : List AstRow) (out : List ExprRow) → rows_of tables columns places rows ≡ Ok out → All (IsSoundRow columns places) out
  unfolding rows_of
  rows_good rows out h = all_made (λ _. row_of tables nowhere types) (IsSoundRow columns places) (λ _ row r e. row_good row r e) rows out h

pub insert_sound : (tables : Tables) (insert : InsertStmt) (b : BoundInsert) → insert_of tables insert ≡ Ok b → IsSoundInsert tables b
unfolding insert_of
insert_sound tables insert b h =
    let p = bind_ok (table_named tables insert.table) _ b h in
    let q = bind_ok (listed_columns (columns_of tables p.0) insert.columns) _ b p.2 in
    let r = bind_ok (rows_of tables (columns_of tables p.0) q.0 insert.rows) _ b q.2 in
    let places = places_good (columns_of tables p.0) insert.columns q.0 q.1 in
    subst (IsSoundInsert tables) (ok_is (record { table = p.0; columns = q.0; rows = r.0 }) b r.2) (record {
      shown = named_shown tables insert.table p.0 p.1;
      columns = places.within;
      apart = places.apart;
      rows = rows_good tables (columns_of tables p.0) q.0 insert.rows r.0 r.1;
    })

-- ---- UPDATE

module _ (tables : Tables) (name : List ℕ) (number : ℕ) where
  abbrev table : TableDef
  table = table_at tables number

  abbrev scope : Scope
  scope = alone name number

  -- a column that may be set behind others
  record IsSetColumn (before : List SetTo) (place : ℕ) : Type 0 where
    pub within : place < length table.columns
    pub not_key : is_in table.key place ≡ false
    pub not_set : is_set before place ≡ false

  set_column : (before : List SetTo) (column : List ℕ) (place : ℕ) → column_behind table.columns table.key before column ≡ Ok place → IsSetColumn before place
  unfolding column_behind
  set_column before column place h =
      let p = bind_ok (column_named table.columns column) _ place h in
      let q = two (is_in table.key p.0) (is_set before p.0) p.0 p.2 in
      subst (IsSetColumn before) q.2 (record { within = column_within table.columns column p.0 p.1; not_key = q.0; not_set = q.1 })
    where
      two : (a b : Bool) (x : ℕ) → (let r : Result ℕ BindFault = refused_if a (fault.KeyColumn column) >> (refused_if b (fault.Ambiguous column) >> Ok x) in r ≡ Ok place) → (a ≡ false) × (b ≡ false) × (x ≡ place)
      two true b x e = absurd cc
      two false true x e = absurd cc
      two false false x e = (refl, refl, ok_is x place e)

  record AreSets (sets : List SetTo) : Type 0 where
    pub sound : All (IsSoundSet tables number) sets
    pub apart : AreApart same_set sets

  set_kept : (before : List SetTo) (set : AstSet) (out : SetTo) → AreSets before → set_behind tables scope table before set ≡ Ok out → AreSets (before ++ out ∷ [])
  unfolding set_behind
  set_kept before set out good h =
      let p = bind_ok (column_behind table.columns table.key before set.column) _ out h in
      let q = bind_ok (taken_by (type_at table.columns p.0) tables scope set.value) _ out p.2 in
      let c = set_column before set.column p.0 p.1 in
      let typed = taken_fits tables scope (type_at table.columns p.0) set.value q.0 q.1 in
      let sound : IsSoundSet tables number (record { column = p.0; value = q.0 }) = record { column = c.within; not_key = c.not_key; value = typed } in
      subst (λ (s : SetTo). AreSets (before ++ s ∷ [])) (ok_is (record { column = p.0; value = q.0 }) out q.2) (record {
        sound = All-append (IsSoundSet tables number) before (record { column = p.0; value = q.0 } ∷ []) good.sound (All-one (IsSoundSet tables number) (record { column = p.0; value = q.0 }) sound);
        apart = apart_more same_set before (record { column = p.0; value = q.0 }) good.apart c.not_set;
      })

  sets_good : (sets : List AstSet) (out : List SetTo) → each_behind (set_behind tables scope table) [] sets ≡ Ok out → AreSets out
  sets_good sets out h = kept (set_behind tables scope table) AreSets set_kept [] sets out (record { sound = All-nil (IsSoundSet tables number); apart = apart_none same_set }) h

pub update_sound : (tables : Tables) (update : UpdateStmt) (b : BoundUpdate) → update_of tables update ≡ Ok b → IsSoundUpdate tables b
unfolding update_of update_in
update_sound tables update b h =
    let p = bind_ok (table_named tables update.table) _ b h in
    let q = bind_ok (each_behind (set_behind tables (alone update.table p.0) (table_at tables p.0)) [] update.sets) _ b p.2 in
    let r = bind_ok (filter_of tables (alone update.table p.0) update.filter) _ b q.2 in
    let sets = sets_good tables update.table p.0 update.sets q.0 q.1 in
    subst (IsSoundUpdate tables) (ok_is (record { table = p.0; sets = q.0; tests = r.0 }) b r.2) (record {
      shown = named_shown tables update.table p.0 p.1;
      sets = sets.sound;
      apart = sets.apart;
      tests = filter_tests tables (alone update.table p.0) update.filter r.0 r.1;
    })

-- ---- DELETE

pub delete_sound : (tables : Tables) (delete : DeleteStmt) (b : BoundDelete) → delete_of tables delete ≡ Ok b → IsSoundDelete tables b
unfolding delete_of
delete_sound tables delete b h =
    let p = bind_ok (table_named tables delete.table) _ b h in
    let r = bind_ok (filter_of tables (alone delete.table p.0) delete.filter) _ b p.2 in
    subst (IsSoundDelete tables) (ok_is (record { table = p.0; tests = r.0 }) b r.2) (record {
      shown = named_shown tables delete.table p.0 p.1;
      tests = filter_tests tables (alone delete.table p.0) delete.filter r.0 r.1;
    })
