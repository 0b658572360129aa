-- The rows that an index names in a range, and which of them lie in it at the snapshot's epoch.
use Rattle.std.proofs.Common.{◌≡◌, ⊎_elim, ℕ, Bool, true, false, cond, ◌||◌, ◌&&◌, nat_eq, Option, None, Some, List, [], ◌∷◌, map, Contains, refl, sym, ap, ◌∙◌, subst, arith}
use Rattle.std.specs.BTreeMap.{is_at}
use Rattle.std.specs.List.{All, AllByRecursion, cons_option, filter, list_any}
use Rattle.std.specs.List.Sorted.{IsStrictlySortedBy}
use Rattle.std.specs.Map.{keys_of}
use Rattle.std.specs.Option.{option_and_then, option_map}
use Rattle.std.specs.Ordering.{ordering_then}
use Rattle.std.specs.Cmp.{nat_cmp_total}
use Rattle.std.specs.declared.cmp.Ordering.TheVariants.{Less}
use Rattle.std.proofs.lemmas.Bool.{false≢true}
use Rattle.std.proofs.lemmas.Bool.Decides.{nat_tests}
use Rattle.std.proofs.lemmas.Cmp.{tied_itself}
use Rattle.std.proofs.lemmas.List.Elements.{All-nil, All-cons, All-contains}
use Rattle.geo_base.specs.declared.cell.Cell.{Cell}
use Rattle.geo_base.specs.declared.row_id.RowId.{RowId}
use Rattle.geo_base.specs.declared.row_image.RowImage.{RowImage}
use Rattle.geo_base.specs.Order.{cells_cmp, row_cmp, row_eq}
use Rattle.geo_base.specs.laws.Orders.{row_eq_decides, row_eq_ties}
use Rattle.geo_schema.specs.declared.index.IndexDef.{IndexDef}
use Rattle.geo_schema.specs.declared.range.KeyRange.{KeyRange}
use Rattle.geo_schema.specs.Indexes.{HasIndex, index_at, index_cells}
use Rattle.geo_schema.specs.Ranges.{is_within}
use Rattle.geo_schema.specs.Schemas.{Tables, table_at}
use Rattle.index_store.specs.declared.pair.IndexPair.{IndexPair}
use Rattle.index_store.specs.Pairs.{IsPairIn, row_of}
use Rattle.index_store.specs.Ranges.{AreKeysIn}
use Rattle.row_source.specs.Handing.{row_named}
use Rattle.row_source.specs.Sources.{is_by_index}
use Rattle.version_store.specs.laws.Keeping.{read_is_version}
use Rattle.version_store.specs.laws.Listing.{listed_is_read, same_tables}
use Rattle.version_store.specs.History.{chain_of}
use Rattle.write_set.specs.laws.Among.{among_first, among_later, among_cases, among_none, any_among, any_found}
use Rattle.write_set.specs.Overlay.{Table, image_in}
use Rattle.write_set.specs.Sets.{Rises}
use Rattle.snap_view.specs.Snapshots.{Held, HoldsIndexes, IsSnapshot, rows_of}
use Rattle.snap_view.specs.inner.Laying.{within}
use Rattle.snap_view.specs.inner.Naming.{AreNamesIn, HasPairIn, entries_within, image_within}
use Rattle.snap_view.proofs.Tested.{found, found_passing, passing, rises_passing}

-- ---- names of keys

module _ (table : ℕ) where
  abbrev pub names : List (List Cell) → List RowId
  names keys = map (row_named table) keys

  named_cmp : (a b : List Cell) → row_cmp (row_named table a) (row_named table b) ≡ cells_cmp a b
  unfolding row_cmp
  named_cmp a b = ap (λ o. ordering_then o (cells_cmp a b)) (tied_itself nat_cmp_total table)

  names_above : (key : List Cell) (keys : List (List Cell)) → AllByRecursion (λ k. cells_cmp key k ≡ Less) keys →
      AllByRecursion (λ row. row_cmp (row_named table key) row ≡ Less) (names keys)
  names_above key [] above = tt
  names_above key (k ∷ keys) above = (named_cmp key k ∙ above.0, names_above key keys above.1)

  names_rise : (keys : List (List Cell)) → IsStrictlySortedBy cells_cmp keys → IsStrictlySortedBy row_cmp (names keys)
  unfolding IsStrictlySortedBy
  names_rise [] rising = tt
  names_rise (k ∷ keys) rising = (names_above k keys rising.0, names_rise keys rising.1)

  names_of_table : (keys : List (List Cell)) → All (λ row. row.table ≡ table) (names keys)
  names_of_table [] = All-nil (λ row. row.table ≡ table)
  names_of_table (k ∷ keys) = All-cons (λ row. row.table ≡ table) (row_named table k) (names keys) refl (names_of_table keys)

  name_among : (keys : List (List Cell)) (key : List Cell) → Contains keys key → Contains (names keys) (row_named table key)
  name_among [] key among = absurd (among_none key among)
  name_among (k ∷ keys) key among =
      ⊎_elim
      (λ same. subst (λ c. Contains (names (k ∷ keys)) (row_named table c)) same (among_first (row_named table k) (names keys)))
      (λ later. among_later (row_named table k) (row_named table key) (names keys) (name_among keys key later))
      (among_cases k keys key among)

-- the names of keys that are lent
pub named_lent : {X : Type 0} (see : X → List Cell) (table : ℕ) (keys : List X) → map (λ key. row_named table (see key)) keys ≡ names table (map see keys)
named_lent see table [] = refl
named_lent see table (k ∷ keys) = ap (λ l. row_named table (see k) ∷ l) (named_lent see table keys)

-- the names of the keys that an index has in a range
pub are_names : (tables : Tables) (held : Held) (table index : ℕ) (range : KeyRange) (keys : List (List Cell)) → IsSnapshot held → HoldsIndexes tables held → HasIndex tables table index →
    AreKeysIn table index range held.pairs keys → AreNamesIn table (index_at (table_at tables table) index) range (rows_of held) (names table keys)
are_names tables held table index range keys is holds has are = record {
  rising = names_rise table keys are.rising;
  table = names_of_table table keys;
  each = λ row image there of_table lies.
      let pair : IndexPair = record { table = table; index = index; cells = index_cells (index_at (table_at tables table) index) image; key = row.key } in
      let same : row_of pair ≡ row = ap (λ (t : ℕ). record { table = t; key = row.key }) (sym of_table) in
      let read = sym (listed_is_read held.epoch held.versions.rows row is.order.rising) ∙ there in
      let (version, among, image_is) = read_is_version (chain_of held.versions row) held.epoch image read in
      let had : IsPairIn tables pair version.image = subst (IsPairIn tables pair) (sym image_is) (record { index = has; cells = refl }) in
      let in_pairs = holds pair version (subst (λ r. Contains (chain_of held.versions r) version) (sym same) among) had in
      let in_keys = are.each pair in_pairs (record { table = refl; index = refl; within = lies }) in
      subst (Contains (names table keys)) same (name_among table keys row.key in_keys);
}

-- a name among those of keys is that of one of them
name_of : (table : ℕ) (keys : List (List Cell)) (row : RowId) → Contains (names table keys) row → (key : List Cell) × Contains keys key × (row_named table key ≡ row)
name_of table [] row among = absurd (among_none row among)
name_of table (k ∷ keys) row among =
    ⊎_elim
    (λ same. (k, among_first k keys, same))
    (λ later. let (key, in_keys, same) = name_of table keys row later in (key, among_later k key keys in_keys, same))
    (among_cases (row_named table k) (names table keys) row among)

-- and each name of the keys that an index has in a range is that of a pair in it
pub named_by_pairs : (table index : ℕ) (range : KeyRange) (pairs : List IndexPair) (keys : List (List Cell)) → AreKeysIn table index range pairs keys →
    (row : RowId) → Contains (names table keys) row → HasPairIn table index range pairs row
named_by_pairs table index range pairs keys are row among =
    let (key, in_keys, named) = name_of table keys row among in
    let (pair, in_pairs, lies, its) = are.only key in_keys in
    record { pair = pair; among = in_pairs; lies = lies; same = (λ i. record { table = lies.table i; key = its i }) ∙ named }

-- ---- those that lie in the range

module _ (index : IndexDef) (range : KeyRange) (rows : Table) where
  above_within : (row : RowId) (names : List RowId) → AllByRecursion (λ y. row_cmp row y ≡ Less) names →
      AllByRecursion (λ y. row_cmp row y ≡ Less) (keys_of (entries_within index range rows names))
  above_within row [] above = tt
  above_within row (n ∷ ns) above = by (image_within index range rows n) (above_within row ns above.1)
    where
      by : (image : Option RowImage) → AllByRecursion (λ y. row_cmp row y ≡ Less) (keys_of (entries_within index range rows ns)) →
          AllByRecursion (λ y. row_cmp row y ≡ Less) (keys_of (cons_option (option_map (λ i. (n, i)) image) (entries_within index range rows ns)))
      by None rest = rest
      by (Some image) rest = (above.0, rest)

  rises_within : (names : List RowId) → IsStrictlySortedBy row_cmp names → Rises (entries_within index range rows names)
  unfolding IsStrictlySortedBy
  rises_within [] rising = tt
  rises_within (n ∷ ns) rising = by (image_within index range rows n) (rises_within ns rising.1)
    where
      by : (image : Option RowImage) → Rises (entries_within index range rows ns) → Rises (cons_option (option_map (λ i. (n, i)) image) (entries_within index range rows ns))
      by None rest = rest
      by (Some image) rest = (above_within n ns rising.0, rest)

  none_of_none : (b : Bool) → cond {A = Option RowImage} b None None ≡ None
  none_of_none true = refl
  none_of_none false = refl

  found_within : (names : List RowId) (row : RowId) →
      found row (entries_within index range rows names) ≡ cond (list_any (row_eq row) names) (image_within index range rows row) None
  found_within [] row = refl
  found_within (n ∷ ns) row = by (row_eq row n) (image_within index range rows n) refl refl (found_within ns row)
    where
      here : (b : Bool) → row_eq row n ≡ b → is_at (row_cmp row) n ≡ b
      here b is = sym (row_eq_ties row n) ∙ is

      of_row : row_eq row n ≡ true → (o : Option RowImage) → image_within index range rows n ≡ o → image_within index range rows row ≡ o
      of_row is o has = ap (image_within index range rows) ((row_eq_decides row n).0 is) ∙ has

      by : (b : Bool) (o : Option RowImage) → row_eq row n ≡ b → image_within index range rows n ≡ o →
          found row (entries_within index range rows ns) ≡ cond (list_any (row_eq row) ns) (image_within index range rows row) None →
          found row (cons_option (option_map (λ i. (n, i)) o) (entries_within index range rows ns)) ≡ cond (b || list_any (row_eq row) ns) (image_within index range rows row) None
      by true None is has rest =
          rest ∙ (ap (λ o. cond (list_any (row_eq row) ns) o None) (of_row is None has) ∙ (none_of_none (list_any (row_eq row) ns) ∙ sym (of_row is None has)))
      by true (Some image) is has rest =
          ap (λ b. cond b (Some image) (found row (entries_within index range rows ns))) (here true is) ∙ sym (of_row is (Some image) has)
      by false None is has rest = rest
      by false (Some image) is has rest =
          ap (λ b. cond b (Some image) (found row (entries_within index range rows ns))) (here false is) ∙ rest

  module _ (table : ℕ) (names : List RowId) (rises : Rises rows) (are : AreNamesIn table index range rows names) where
    of_table : (row : RowId) → list_any (row_eq row) names ≡ true → nat_eq row.table table ≡ true
    of_table row any =
        let (name, among, same) = any_found (row_eq row) names any in
        let its : name.table ≡ table = All-contains (λ r. r.table ≡ table) names name are.table among in
        let of_row : row.table ≡ table = ap (λ (r : RowId). r.table) ((row_eq_decides row name).0 same) ∙ its in
        grind (arith, nat_tests, of_row)

    same_table : (row : RowId) → nat_eq row.table table ≡ true → row.table ≡ table
    same_table row is = grind (arith, nat_tests, is)

    kept_alike : (row : RowId) (o : Option RowImage) → image_in rows row ≡ o →
        cond (list_any (row_eq row) names) (image_within index range rows row) None ≡ passing (λ image. is_by_index index table range (row, image)) o
    kept_alike row None has = ap (λ o. cond (list_any (row_eq row) names) (option_and_then (within index range) o) None) has ∙ none_of_none (list_any (row_eq row) names)
    kept_alike row (Some image) has =
        ap (λ o. cond (list_any (row_eq row) names) (option_and_then (within index range) o) None) has
        ∙ by (list_any (row_eq row) names) (nat_eq row.table table) (is_within range (index_cells index image)) refl refl refl
      where
        no_name : list_any (row_eq row) names ≡ false → nat_eq row.table table ≡ true → is_within range (index_cells index image) ≡ true → ⊥
        no_name none is lies =
            let any = any_among (row_eq row) names row (are.each row image has (same_table row is) lies) ((row_eq_decides row row).1 refl) in
            false≢true (sym none ∙ any)

        by : (a t w : Bool) → list_any (row_eq row) names ≡ a → nat_eq row.table table ≡ t → is_within range (index_cells index image) ≡ w →
            cond a (cond w (Some image) None) None ≡ cond (t && w) (Some image) None
        by true true w any is lies = refl
        by true false w any is lies = absurd (false≢true (sym is ∙ of_table row any))
        by false true true any is lies = absurd (no_name any is lies)
        by false true false any is lies = refl
        by false false w any is lies = refl

    -- they are the rows whose cells in the index lie in the range
    pub all_within : entries_within index range rows names ≡ filter (is_by_index index table range) rows
    all_within =
        same_tables (entries_within index range rows names) (filter (is_by_index index table range) rows)
        (rises_within names are.rising) (rises_passing (is_by_index index table range) rows rises)
        (λ row. found_within names row ∙ (kept_alike row (image_in rows row) refl ∙ sym (found_passing (is_by_index index table range) rows row rises)))
