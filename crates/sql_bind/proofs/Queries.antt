-- Bound queries: their tests, groups, items and what they sort by.
use Rattle.std.proofs.Common.{◌≡◌, ℕ, ◌+◌, ◌<◌, ◌≤◌, ◌⊎◌, inl, inr, Bool, true, false, not, ◌&&◌, ◌||◌, nat_eq, ◌==◌, if◌then◌else◌, Option, Some, None, List, [], ◌∷◌, ◌++◌, length, length-append, get_or, drop, Result, Ok, Err, refl, sym, subst, ◌∙◌, arith}
use Rattle.std.specs.Prelude.{position, is_some, nat_le}
use Rattle.std.specs.List.{All, list_any}
use Rattle.std.proofs.lemmas.Bool.{and_parts, leb-true, both_ways, or_left, or_right}
use Rattle.std.proofs.lemmas.Bool.Decides.{nat_tests}
use Rattle.std.proofs.lemmas.List.{at_drop_more, at_drop_all}
use Rattle.std.proofs.lemmas.List.Elements.{All-nil, All-append}
use Rattle.std.proofs.lemmas.List.Quantifiers.{position-Some}
use Rattle.std.proofs.lemmas.Option.{slice_get_within, slice_get-get_or}
use Rattle.geo_base.specs.declared.limits.TheConstants.{MAX_LINE_CELLS}
use Rattle.geo_base.specs.laws.Results.{ok_is, bind_ok}
use Rattle.geo_schema.specs.declared.column.ColumnDef.{ColumnDef}
use Rattle.geo_schema.specs.Repeats.{AreApart}
use Rattle.geo_schema.specs.Rows.{is_in}
use Rattle.geo_schema.specs.Schemas.{Tables}
use Rattle.sql_ast.specs.declared.ast.Ast.{Ast}
use Rattle.sql_ast.specs.declared.ast.ColRef.{ColRef}
use Rattle.sql_ast.specs.declared.select.AstItem.{AstItem}
use Rattle.sql_ast.specs.declared.select.AstValue.{AstValue}
use Rattle.sql_ast.specs.declared.select.AstValue.TheVariants as value
use Rattle.sql_ast.specs.declared.select.Items.{Items}
use Rattle.sql_ast.specs.declared.select.Items.TheVariants as items
use Rattle.sql_ast.specs.declared.select.JoinRef.{JoinRef}
use Rattle.sql_ast.specs.declared.select.OrderRef.{OrderRef}
use Rattle.sql_ast.specs.declared.select.SelectStmt.{SelectStmt}
use Rattle.sql_expr.specs.declared.expr.Expr.{Expr}
use Rattle.sql_expr.specs.declared.expr.Expr.TheVariants as expr
use Rattle.sql_expr.specs.declared.value_type.ValueType.{ValueType}
use Rattle.sql_expr.specs.declared.value_type.ValueType.TheVariants as type
use Rattle.sql_bind.specs.declared.bound.BoundSelect.{BoundSelect}
use Rattle.sql_bind.specs.declared.bound.Item.{Item}
use Rattle.sql_bind.specs.declared.bound.Item.TheVariants as item
use Rattle.sql_bind.specs.declared.bound.Sort.{Sort}
use Rattle.sql_bind.specs.declared.bound.SortBy.{SortBy}
use Rattle.sql_bind.specs.declared.bound.SortBy.TheVariants as by
use Rattle.sql_bind.specs.declared.fault.BindFault.{BindFault}
use Rattle.sql_bind.specs.declared.fault.BindFault.TheVariants as fault
use Rattle.sql_bind.specs.declared.names.Found.{Found}
use Rattle.sql_bind.specs.declared.scope.Known.{Known}
use Rattle.sql_bind.specs.declared.scope.Scope.{Scope}
use Rattle.sql_bind.specs.declared.select.Lines.{Lines}
use Rattle.sql_bind.specs.Conditions.{conjuncts, condition_of, filter_of}
use Rattle.sql_bind.specs.Expressions.{of_any_type, taken_by}
use Rattle.sql_bind.specs.Items.{is_aggregate, has_aggregate, item_of, next_star, star_of, listed, items_of}
use Rattle.sql_bind.specs.Names.{known_columns, column_types, is_allowed, column_meant}
use Rattle.sql_bind.specs.Orders.{has_alias, written_items, only_item, item_meant, item_or_column, sort_of, order_of}
use Rattle.sql_bind.specs.Selects.{from_of, on_of, once, group_behind, is_grouped, only_group, plain_scope, tests_of, numbers_in, numbers_of, lines_in, lines_of, query_in, select_of, lock_of}
use Rattle.sql_bind.specs.Sound.{types_of, HasType, IsTest, IsItem, is_plain, is_of_columns, IsItemWithin, IsSortOf, IsSortWithin, IsSoundSelect, IsSoundLock}
use Rattle.sql_bind.specs.Steps.{◌>>◌, refused_if, refused_unless, each_behind}
use Rattle.sql_bind.proofs.Conjuncts.{all_tests}
use Rattle.sql_bind.proofs.Levels.{type_column, within_column}
use Rattle.sql_bind.proofs.Lists.{All-one, all_made, count, apart_more, apart_none}
use Rattle.sql_bind.proofs.Tables.{IsFrom, is_from, numbers_shown, same_types, number_count}
use Rattle.sql_bind.proofs.Typing.{scope_types, column_allowed, any_fits, taken_fits, types_count, IsWithin, IsBoundTo}

-- a test that refuses let the rest through
pub passed : {A E : Type 0} (b : Bool) (e : E) (x y : A) → (let r : Result A E = refused_unless b e >> Ok x in r ≡ Ok y) → (b ≡ true) × (x ≡ y)
passed true e x y h = (refl, ok_is x y h)
passed false e x y h = absurd cc

pub missed : {A E : Type 0} (b : Bool) (e : E) (x y : A) → (let r : Result A E = refused_if b e >> Ok x in r ≡ Ok y) → (b ≡ false) × (x ≡ y)
missed false e x y h = (refl, ok_is x y h)
missed true e x y h = absurd cc

-- ---- conditions

module _ (tables : Tables) (scope : Scope) where
  abbrev pub AreTests : List Expr → Type 0
  AreTests tests = All (IsTest (scope_types tables scope)) tests

  pub condition_tests : (test : Ast) (tests : List Expr) → condition_of tables scope test ≡ Ok tests → AreTests tests
  unfolding condition_of
  condition_tests test tests h =
      let p = bind_ok (taken_by type.Truth tables scope test) (λ whole. Ok (conjuncts whole)) tests h in
      subst AreTests (ok_is (conjuncts p.0) tests p.2) (all_tests (scope_types tables scope) p.0 (taken_fits tables scope type.Truth test p.0 p.1))

  no_tests : (tests : List Expr) → (let r : Result (List Expr) BindFault = Ok [] in r ≡ Ok tests) → AreTests tests
  no_tests tests h = subst AreTests (ok_is [] tests h) (All-nil (IsTest (scope_types tables scope)))

  pub filter_tests : (filter : Option Ast) (tests : List Expr) → filter_of tables scope filter ≡ Ok tests → AreTests tests
  filter_tests None tests h = no_tests tests h
  filter_tests (Some test) tests h = condition_tests test tests h

  on_tests : (join : Option JoinRef) (tests : List Expr) → on_of tables scope join ≡ Ok tests → AreTests tests
  on_tests None tests h = no_tests tests h
  on_tests (Some join) tests h = condition_tests join.on tests h

  pub query_tests : (select : SelectStmt) (tests : List Expr) → tests_of tables scope select ≡ Ok tests → AreTests tests
  unfolding tests_of
  query_tests select tests h =
      let p = bind_ok (on_of tables scope select.right) _ tests h in
      let q = bind_ok (filter_of tables scope select.filter) (λ filter. Ok (p.0 ++ filter)) tests p.2 in
      subst AreTests (ok_is (p.0 ++ q.0) tests q.2) (All-append (IsTest (scope_types tables scope)) p.0 q.0 (on_tests select.right p.0 p.1) (filter_tests select.filter q.0 q.1))

  -- ---- groups

  abbrev pub IsColumnNo : ℕ → Type 0
  IsColumnNo place = place < length (scope_types tables scope)

  pub column_within : (column : ColRef) (found : Found) → column_meant tables scope column ≡ Ok found → IsColumnNo found.place
  column_within column found h = slice_get_within (scope_types tables scope) found.place found.value_type (column_allowed tables scope column found h).column

  added : (group : List ℕ) (place : ℕ) (b : Bool) → All IsColumnNo group → IsColumnNo place → All IsColumnNo (if b then group else group ++ place ∷ [])
  added group place true all here = all
  added group place false all here = All-append IsColumnNo group (place ∷ []) all (All-one IsColumnNo place here)

  pub group_within : (group : List ℕ) (columns : List ColRef) (out : List ℕ) → All IsColumnNo group → group_behind tables scope group columns ≡ Ok out → All IsColumnNo out
  group_within group [] out all h = subst (All IsColumnNo) (ok_is group out h) all
  group_within group (column ∷ columns) out all h =
      let p = bind_ok (column_meant tables scope column) (λ found. group_behind tables scope (once group found.place) columns) out h in
      group_within (once group p.0.place) columns out (added group p.0.place (is_in group p.0.place) all (column_within column p.0 p.1)) p.2

  once_apart : (group : List ℕ) (place : ℕ) (b : Bool) → is_in group place ≡ b → AreApart nat_eq group → AreApart nat_eq (if b then group else group ++ place ∷ [])
  once_apart group place true is apart = apart
  once_apart group place false is apart = apart_more nat_eq group place apart is

  pub group_apart : (group : List ℕ) (columns : List ColRef) (out : List ℕ) → AreApart nat_eq group → group_behind tables scope group columns ≡ Ok out → AreApart nat_eq out
  group_apart group [] out apart h = subst (AreApart nat_eq) (ok_is group out h) apart
  group_apart group (column ∷ columns) out apart h =
      let p = bind_ok (column_meant tables scope column) (λ found. group_behind tables scope (once group found.place) columns) out h in
      group_apart (once group p.0.place) columns out (once_apart group p.0.place (is_in group p.0.place) refl apart) p.2

-- a loop over the columns of GROUP BY: the columns so far, and then those that are left, come to the whole
module _ (tables : Tables) (scope : Scope) (columns : List ColRef) (whole : Result (List ℕ) BindFault) where
  abbrev pub GroupsTo : List ℕ → ℕ → Type 0
  GroupsTo group place = group_behind tables scope group (drop place columns) ≡ whole

  pub next_grouped : (group : List ℕ) (place : ℕ) (column : ColRef) (found : Found) → place < length columns → get_or columns place column ≡ column → GroupsTo group place →
      column_meant tables scope column ≡ Ok found → GroupsTo (once group found.place) (place + 1)
  next_grouped group place column found within at h is =
      sym (at_drop_more (group_behind tables scope group) columns place column within ∙ rw (at, is) refl) ∙ h

  pub group_refused : (none fault : BindFault) (group : List ℕ) (place : ℕ) (column : ColRef) → place < length columns → get_or columns place column ≡ column → GroupsTo group place →
      (fault ≡ none) ⊎ (column_meant tables scope column ≡ Err fault) → (fault ≡ none) ⊎ (whole ≡ Err fault)
  group_refused none fault group place column within at h (inl is) = inl is
  group_refused none fault group place column within at h (inr is) =
      inr (sym h ∙ (at_drop_more (group_behind tables scope group) columns place column within ∙ rw (at, is) refl))

  pub whole_group : (group : List ℕ) (place : ℕ) → length columns ≤ place → GroupsTo group place → whole ≡ Ok group
  whole_group group place upto h = sym h ∙ at_drop_all (group_behind tables scope group) columns place upto

-- ---- items

module _ (tables : Tables) (scope : Scope) (grouped : Bool) (group : List ℕ) where
  abbrev pub plain : Scope
  plain = plain_scope grouped group scope

  abbrev pub columns : List ValueType
  columns = scope_types tables scope

  -- an item has its types; plain ones of a grouped query have columns of GROUP BY alone; and others are plain
  pub record IsGood (i : Item) : Type 0 where
    pub types : IsItem columns i
    pub within : grouped ≡ true → IsItemWithin group i
    pub single : grouped ≡ false → is_plain i ≡ true

  plain_good : (e : Expr) → HasType columns e → (grouped ≡ true → is_of_columns group e ≡ true) → IsGood (item.Plain e)
  plain_good e t w = record { types = t; within = w; single = λ _. refl }

  -- where the query is grouped, the columns that may stand there are those of GROUP BY
  only : (b : Bool) (e : Expr) → IsWithin (only_group b group) e → b ≡ true → is_of_columns group e ≡ true
  only true e w h = w
  only false e w h = absurd cc

  bound_good : (e : Expr) → IsBoundTo tables plain e → IsGood (item.Plain e)
  bound_good e b = plain_good e b.type (only grouped e b.within)

  -- an aggregate, where the query is grouped
  other_good : (i : Item) → IsItem columns i → (grouped ≡ true → IsItemWithin group i) → grouped ≡ true → IsGood i
  other_good i t w is = record { types = t; within = w; single = λ h. absurd (both_ways grouped h is) }

  item_good : (v : AstValue) (i : Item) → (is_aggregate v ≡ true → grouped ≡ true) → item_of tables scope plain v ≡ Ok i → IsGood i
  item_good (value.Plain e) i g h =
      let p = bind_ok (of_any_type tables plain e) (λ bound. Ok (item.Plain bound)) i h in
      subst IsGood (ok_is (item.Plain p.0) i p.2) (bound_good p.0 (any_fits tables plain e p.0 p.1))
  item_good value.CountAll i g h = subst IsGood (ok_is item.CountAll i h) (other_good item.CountAll tt (λ _. tt) (g refl))
  item_good (value.Count e) i g h =
      let p = bind_ok (of_any_type tables scope e) (λ bound. Ok (item.Count bound)) i h in
      subst IsGood (ok_is (item.Count p.0) i p.2) (other_good (item.Count p.0) (any_fits tables scope e p.0 p.1).type (λ _. tt) (g refl))
  item_good (value.Sum e) i g h =
      let p = bind_ok (taken_by type.Int tables scope e) (λ bound. Ok (item.Sum bound)) i h in
      subst IsGood (ok_is (item.Sum p.0) i p.2) (other_good (item.Sum p.0) (taken_fits tables scope type.Int e p.0 p.1) (λ _. tt) (g refl))
  item_good (value.Min e) i g h =
      let p = bind_ok (of_any_type tables scope e) (λ bound. Ok (item.Min bound)) i h in
      subst IsGood (ok_is (item.Min p.0) i p.2) (other_good (item.Min p.0) (any_fits tables scope e p.0 p.1).type (λ _. tt) (g refl))
  item_good (value.Max e) i g h =
      let p = bind_ok (of_any_type tables scope e) (λ bound. Ok (item.Max bound)) i h in
      subst IsGood (ok_is (item.Max p.0) i p.2) (other_good (item.Max p.0) (any_fits tables scope e p.0 p.1).type (λ _. tt) (g refl))

  abbrev is_counted : AstItem → Bool
  is_counted i = is_aggregate i.value

  -- the items that are written, where the query is grouped if one of them is an aggregate
  written_good : (done : List Item) (list : List AstItem) (out : List Item) → All IsGood done → (list_any is_counted list ≡ true → grouped ≡ true) →
      each_behind (λ _ i. item_of tables scope plain i.value) done list ≡ Ok out → All IsGood out
  written_good done [] out all g h = subst (All IsGood) (ok_is done out h) all
  written_good done (i ∷ list) out all g h =
      let p = bind_ok (item_of tables scope plain i.value) (λ next. each_behind (λ _ j. item_of tables scope plain j.value) (done ++ next ∷ []) list) out h in
      let here = item_good i.value p.0 (λ is. g (or_left (is_counted i) (list_any is_counted list) is)) p.1 in
      written_good (done ++ p.0 ∷ []) list out (All-append IsGood done (p.0 ∷ []) all (All-one IsGood p.0 here)) (λ is. g (or_right (is_counted i) (list_any is_counted list) is)) p.2

  -- a column of all of them
  star_good : (place : ℕ) → place < length columns → is_allowed (only_group grouped group) place ≡ true → IsGood (item.Plain (expr.Col place))
  star_good place within allowed =
      plain_good (expr.Col place) (record { type = get_or columns place type.Any; is = type_column columns place ∙ slice_get-get_or columns place type.Any within })
      (λ is. allowed_in grouped allowed is)
    where
      allowed_in : (b : Bool) → is_allowed (only_group b group) place ≡ true → b ≡ true → is_of_columns group (expr.Col place) ≡ true
      allowed_in true a is = within_column group place ∙ a
      allowed_in false a is = absurd cc

  stars_good : (done : List Item) (list : List ColumnDef) (out : List Item) → length done + length list ≤ length columns → All IsGood done →
      each_behind (next_star plain) done list ≡ Ok out → All IsGood out
  stars_good done [] out few all h = subst (All IsGood) (ok_is done out h) all
  stars_good done (c ∷ list) out few all h =
      let p = bind_ok (next_star plain done c) (λ next. each_behind (next_star plain) (done ++ next ∷ []) list) out h in
      let q = passed (is_allowed plain.group (length done)) (fault.NotGrouped c.name) (item.Plain (expr.Col (length done))) p.0 p.1 in
      let here : IsGood p.0 = subst IsGood q.1 (star_good (length done) (omega (arith, few)) q.0) in
      let one = length-append done (p.0 ∷ []) in
      stars_good (done ++ p.0 ∷ []) list out (omega (arith, few, one)) (All-append IsGood done (p.0 ∷ []) all (All-one IsGood p.0 here)) p.2

  columns_count : length columns ≡ length (known_columns tables scope.left) + length (known_columns tables scope.right)
  columns_count =
      let whole = length-append (column_types (known_columns tables scope.left)) (column_types (known_columns tables scope.right)) in
      let left = types_count (known_columns tables scope.left) in
      let right = types_count (known_columns tables scope.right) in
      omega (arith, whole, left, right)

  star_items_good : (out : List Item) → star_of tables plain ≡ Ok out → All IsGood out
  star_items_good out h =
      let l = known_columns tables scope.left in
      let r = known_columns tables scope.right in
      let p = bind_ok (each_behind (next_star plain) [] l) (λ left. each_behind (next_star plain) left r) out h in
      let n = count (next_star plain) [] l p.0 p.1 in
      stars_good p.0 r out (omega (arith, n, columns_count)) (stars_good [] l p.0 (omega (arith, columns_count)) (All-nil IsGood) p.1) p.2

  -- the items of a query, and that there are at least as many as are written
  pub record AreItems (list : Items) (out : List Item) : Type 0 where
    pub good : All IsGood out
    pub written : length (written_items list) ≤ length out

  listed_good : (list : Items) (out : List Item) → (has_aggregate list ≡ true → grouped ≡ true) → listed tables scope plain list ≡ Ok out → AreItems list out
  listed_good items.All out g h = record { good = star_items_good out h; written = omega arith }
  listed_good (items.List list) out g h = record {
    good = written_good [] list out (All-nil IsGood) g h;
    written = omega (arith, count (λ _ i. item_of tables scope plain i.value) [] list out h);
  }

  pub record AreBoundItems (list : Items) (out : List Item) : Type 0 where
    pub some : 1 ≤ length out
    pub few : length out ≤ MAX_LINE_CELLS
    pub items : AreItems list out

  pub items_good : (list : Items) (out : List Item) → (has_aggregate list ≡ true → grouped ≡ true) → items_of tables scope plain list ≡ Ok out → AreBoundItems list out
  unfolding items_of
  items_good list out g h =
      let p = bind_ok (listed tables scope plain list) _ out h in
      let q = passed (nat_le 1 (length p.0) && nat_le (length p.0) MAX_LINE_CELLS) fault.WrongCount p.0 out p.2 in
      let r = and_parts (nat_le 1 (length p.0)) (nat_le (length p.0) MAX_LINE_CELLS) q.0 in
      subst (AreBoundItems list) q.1 (record {
        some = leb-true 1 (length p.0) r.0;
        few = leb-true (length p.0) MAX_LINE_CELLS r.1;
        items = listed_good list p.0 g p.1;
      })

  -- ---- what is sorted by

  pub record IsGoodSort (items : ℕ) (sort : Sort) : Type 0 where
    pub is : IsSortOf items (length columns) sort.by
    pub within : grouped ≡ true → IsSortWithin group sort.by

  abbrev IsGoodBy : ℕ → SortBy → Type 0
  IsGoodBy items b = IsSortOf items (length columns) b × (grouped ≡ true → IsSortWithin group b)

  only_within : (list : List AstItem) (name : List ℕ) (o : Option ℕ) (place : ℕ) → position (has_alias name) list ≡ o → only_item list name o ≡ Ok (Some place) → place < length list
  only_within list name None place is h = absurd cc
  only_within list name (Some at) place is h =
      let q = missed (list_any (has_alias name) (drop (at + 1) list)) (fault.Ambiguous name) (Some at) (Some place) h in
      let within : at < length list = (position-Some (has_alias name) list at no_item is).0 in
      let same : at ≡ place = some_same q.1 in
      subst (λ (n : ℕ). n < length list) same within
    where
      no_item : AstItem
      no_item = record { value = value.CountAll; alias = None }

      some_same : (let o : Option ℕ = Some at in o ≡ Some place) → at ≡ place
      some_same e = cc

  meant_within : (list : List AstItem) (table : Option (List ℕ)) (name : List ℕ) (place : ℕ) → item_meant list table name ≡ Ok (Some place) → place < length list
  meant_within list (Some t) name place h = absurd cc
  meant_within list None name place h = only_within list name (position (has_alias name) list) place refl h

  by_good : (list : List AstItem) (items : ℕ) (column : ColRef) (o : Option ℕ) (b : SortBy) → length list ≤ items → item_meant list column.table column.name ≡ Ok o →
      item_or_column tables plain column o ≡ Ok b → IsGoodBy items b
  by_good list items column (Some place) b few is h =
      let within = meant_within list column.table column.name place is in
      subst (IsGoodBy items) (ok_is (by.Item place) b h) (omega (arith, within, few), λ _. tt)
  by_good list items column None b few is h =
      let p = bind_ok (column_meant tables plain column) (λ found. Ok (by.Column found.place)) b h in
      let a = column_allowed tables plain column p.0 p.1 in
      subst (IsGoodBy items) (ok_is (by.Column p.0.place) b p.2) (slice_get_within columns p.0.place p.0.value_type a.column, λ is. grouped_only grouped p.0.place a.group is)
    where
      grouped_only : (g : Bool) (place : ℕ) → is_allowed (only_group g group) place ≡ true → g ≡ true → is_allowed (Some group) place ≡ true
      grouped_only true place a is = a
      grouped_only false place a is = absurd cc

  sort_good : (list : List AstItem) (items : ℕ) (order : OrderRef) (sort : Sort) → length list ≤ items → sort_of tables plain list order ≡ Ok sort → IsGoodSort items sort
  unfolding sort_of
  sort_good list items order sort few h =
      let p = bind_ok (item_meant list order.column.table order.column.name) _ sort h in
      let q = bind_ok (item_or_column tables plain order.column p.0) _ sort p.2 in
      let r = by_good list items order.column p.0 q.0 few p.1 q.1 in
      subst (IsGoodSort items) (ok_is (record { by = q.0; descending = order.descending }) sort q.2) (record { is = r.0; within = r.1 })

  pub order_good : (list : List AstItem) (items : ℕ) (order : List OrderRef) (sorts : List Sort) → length list ≤ items → order_of tables plain list order ≡ Ok sorts → All (IsGoodSort items) sorts
  order_good list items order sorts few h =
      all_made (λ _. sort_of tables plain list) (IsGoodSort items) (λ done one sort e. sort_good list items one sort few e) order sorts h

-- ---- queries

-- a query that is not grouped has no columns of GROUP BY
ungrouped : (tables : Tables) (scope : Scope) (columns : List ColRef) (aggregates : Bool) (group : List ℕ) → (not (length columns == 0) || aggregates) ≡ false → group_behind tables scope [] columns ≡ Ok group → group ≡ []
ungrouped tables scope [] aggregates group g h = sym (ok_is [] group h)
ungrouped tables scope (c ∷ others) aggregates group g h =
    let some : (length (c ∷ others) == 0) ≡ false = grind (arith, nat_tests) in
    let no : true ≡ false = rw some at g in
    absurd (both_ways true no refl)

-- a query that is bound: it is sound, and has one table where there is no JOIN
pub record IsBoundQuery (tables : Tables) (select : SelectStmt) (query : BoundSelect) : Type 0 where
  pub sound : IsSoundSelect tables query
  pub one : is_some select.right ≡ false → length query.tables ≡ 1

module _ (tables : Tables) (select : SelectStmt) (scope : Scope) (from : IsFrom tables select scope) where
  -- the types of the columns of the tables
  same : types_of tables (numbers_of scope) ≡ scope_types tables scope
  same = same_types tables scope.left scope.right scope.group

  numbers_few : (length (numbers_of scope) ≤ 2) × (1 ≤ length (numbers_of scope))
  numbers_few = subst (λ (s : Scope). (length (numbers_of s) ≤ 2) × (1 ≤ length (numbers_of s))) from.is (let n = number_count from.right in (omega arith, omega arith))

  alone : is_some select.right ≡ false → length (numbers_of scope) ≡ 1
  alone none = subst (λ (s : Scope). length (numbers_of s) ≡ 1) from.is (by from.right (from.joined ∙ none))
    where
      by : (right : Option Known) → is_some right ≡ false → length (from.left.table ∷ numbers_in right) ≡ 1
      by None e = refl
      by (Some r) e = absurd cc

  over : (P : List ValueType → Type 0) → P (scope_types tables scope) → P (types_of tables (numbers_of scope))
  over P p = subst P (sym same) p

  bound_query : (tests : List Expr) (group : List ℕ) (items : List Item) (order : List Sort) → tests_of tables scope select ≡ Ok tests → group_behind tables scope [] select.group ≡ Ok group →
      items_of tables scope (plain_scope (is_grouped select) group scope) select.items ≡ Ok items → order_of tables (plain_scope (is_grouped select) group scope) (written_items select.items) select.order ≡ Ok order →
      IsBoundQuery tables select (record { tables = numbers_of scope; tests = tests; grouped = is_grouped select; group = group; items = items; order = order; limit = select.limit })
  bound_query tests group items order t g i o =
      let grouped = is_grouped select in
      let made = items_good tables scope grouped group select.items items (λ is. or_right (not (length select.group == 0)) (has_aggregate select.items) is) i in
      let sorts = order_good tables scope grouped group (written_items select.items) (length items) select.order order made.items.written o in
      record {
        sound = record {
          some = numbers_few.1;
          few = numbers_few.0;
          shown = numbers_shown tables select scope from;
          tests = over (λ ts. All (IsTest ts) tests) (query_tests tables scope select tests t);
          group = over (λ ts. All (λ place. place < length ts) group) (group_within tables scope [] select.group group (All-nil (IsColumnNo tables scope)) g);
          apart = group_apart tables scope [] select.group group (apart_none nat_eq) g;
          some_items = made.some;
          few_items = made.few;
          items = over (λ ts. All (IsItem ts) items) (λ k d lt. (made.items.good k d lt).types);
          order = over (λ ts. All (λ sort. IsSortOf (length items) (length ts) sort.by) order) (λ k d lt. (sorts k d lt).is);
          not_grouped = λ no. (ungrouped tables scope select.group (has_aggregate select.items) group no g, λ k d lt. (made.items.good k d lt).single no);
          grouped = λ is. (λ k d lt. (made.items.good k d lt).within is, λ k d lt. (sorts k d lt).within is);
        };
        one = alone;
      }

-- the items and what is sorted by, one by one
lines_made : (tables : Tables) (scope plain : Scope) (select : SelectStmt) (lines : Lines) → lines_in tables scope plain select ≡ Ok lines →
    (items_of tables scope plain select.items ≡ Ok lines.items) × (order_of tables plain (written_items select.items) select.order ≡ Ok lines.order)
unfolding lines_in
lines_made tables scope plain select lines h =
    let i = bind_ok (items_of tables scope plain select.items) _ lines h in
    let o = bind_ok (order_of tables plain (written_items select.items) select.order) _ lines i.2 in
    subst (λ (l : Lines). (items_of tables scope plain select.items ≡ Ok l.items) × (order_of tables plain (written_items select.items) select.order ≡ Ok l.order))
    (ok_is (record { items = i.0; order = o.0 }) lines o.2) (i.1, o.1)

query_made : (tables : Tables) (select : SelectStmt) (scope : Scope) (b : BoundSelect) → IsFrom tables select scope → query_in tables scope select ≡ Ok b → IsBoundQuery tables select b
unfolding query_in lines_of
query_made tables select scope b from h =
    let t = bind_ok (tests_of tables scope select) _ b h in
    let g = bind_ok (group_behind tables scope [] select.group) _ b t.2 in
    let l = bind_ok (lines_of tables scope g.0 select) _ b g.2 in
    let m = lines_made tables scope (plain_scope (is_grouped select) g.0 scope) select l.0 l.1 in
    subst (IsBoundQuery tables select) (ok_is (record { tables = numbers_of scope; tests = t.0; grouped = is_grouped select; group = g.0; items = l.0.items; order = l.0.order; limit = select.limit }) b l.2)
    (bound_query tables select scope from t.0 g.0 l.0.items l.0.order t.1 g.1 m.0 m.1)

pub query_bound : (tables : Tables) (select : SelectStmt) (b : BoundSelect) → select_of tables select ≡ Ok b → IsBoundQuery tables select b
unfolding select_of
query_bound tables select b h =
    let p = bind_ok (from_of tables select) _ b h in
    query_made tables select p.0 b (is_from tables select p.0 p.1) p.2

-- a query that locks
pub lock_bound : (tables : Tables) (select : SelectStmt) (b : BoundSelect) → lock_of tables select ≡ Ok b → IsSoundLock tables b
unfolding lock_of
lock_bound tables select b h =
    let p = bind_ok (select_of tables select) _ b h in
    let q = missed (is_some select.right || p.0.grouped) fault.NotLockable p.0 b p.2 in
    let r = query_bound tables select p.0 p.1 in
    let none = neither (is_some select.right) p.0.grouped q.0 in
    subst (IsSoundLock tables) q.1 (record { sound = r.sound; one = r.one none.0; not_grouped = none.1 })
  where
    neither : (x y : Bool) → (x || y) ≡ false → (x ≡ false) × (y ≡ false)
    neither true y e = absurd cc
    neither false y e = (refl, e)
