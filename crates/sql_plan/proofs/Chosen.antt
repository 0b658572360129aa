-- What the code finds for a column, as the definitions have it.
use Rattle.std.proofs.Common.{map, ◌≡◌, ℕ, suc, ◌+◌, ◌<◌, Bool, false, Option, Some, None, List, [], ◌∷◌, ◌++◌, length, get_or, drop, refl, sym, ap, ◌∙◌, arith}
use Rattle.std.specs.List.{position, slice_get}
use Rattle.std.specs.Option.{option_and_then, option_or}
use Rattle.std.proofs.Math.Seq.{drop-length}
use Rattle.std.proofs.lemmas.List.{append_assoc, append-nil, drop_more, get_or_default}
use Rattle.geo_base.specs.declared.cell.Cell.{Cell}
use Rattle.geo_schema.specs.declared.index.IndexDef.{IndexDef}
use Rattle.geo_schema.specs.declared.table.TableDef.{TableDef}
use Rattle.geo_schema.specs.Indexes.{index_at, no_index}
use Rattle.row_source.specs.declared.plan.JoinKind.TheVariants as join
use Rattle.sql_expr.specs.declared.expr.Test.{Test}
use Rattle.sql_plan.specs.Plans.{equal_cell, first_is, first_test, fixed_cells, in_front, index_choice, is_bounded, is_fixed, join_by_links, next_test}
use Rattle.sql_plan.specs.Tests as tests
use Rattle.sql_plan.specs.declared.links.Link.{Link}
use Rattle.sql_plan.specs.inner.Borrowed.{seen_link}

-- ---- first columns and links

pub first_some : (holds : ℕ → Bool) (columns : List ℕ) (column : ℕ) → Some column ≡ slice_get columns 0 → holds column ≡ first_is holds columns
first_some holds [] column h = absurd cc
first_some holds (c ∷ columns) column h = let e : column ≡ c = cc in ap holds e

pub first_none : (holds : ℕ → Bool) (columns : List ℕ) → None ≡ slice_get columns 0 → false ≡ first_is holds columns
first_none holds [] h = refl
first_none holds (c ∷ columns) h = absurd cc

pub first_link : (ls : List Link) (l : Link) → Some l ≡ slice_get ls 0 → join.Hashed l.left l.right ≡ join_by_links (map seen_link ls)
first_link [] l h = absurd cc
first_link (k ∷ ls) l h = let e : l ≡ k = cc in ap (λ (x : Link). join.Hashed x.left x.right) e

pub no_link : (ls : List Link) → None ≡ slice_get ls 0 → join.Nested ≡ join_by_links (map seen_link ls)
no_link [] h = refl
no_link (k ∷ ls) h = absurd cc

-- ---- the column after those that are fixed

pub next_at : (says : Test → Bool) (ts : List tests.ColumnTest) (columns : List ℕ) (n : ℕ) (o : Option ℕ) → n ≡ length (fixed_cells ts columns) → o ≡ slice_get columns n →
    option_and_then (first_test says ts) o ≡ next_test says ts columns
next_at says ts columns n o count is = ap (option_and_then (first_test says ts)) (is ∙ ap (λ (k : ℕ). slice_get columns k) count)

-- ---- the cells that leading columns are equal to

module _ (ts : List tests.ColumnTest) (columns : List ℕ) where
  next_column : (i d : ℕ) (before : List Cell) (o : Option Cell) → i < length columns → o ≡ equal_cell ts (get_or columns i d) →
      before ++ fixed_cells ts (drop i columns) ≡ fixed_cells ts columns → before ++ in_front o (fixed_cells ts (drop (i + 1) columns)) ≡ fixed_cells ts columns
  next_column i d before o within is so_far =
      ap (λ (c : Option Cell). before ++ in_front c (fixed_cells ts (drop (i + 1) columns))) is
      ∙ (ap (λ (left : List ℕ). before ++ fixed_cells ts left) (sym (drop_more columns i d within)) ∙ so_far)

  none_left : (i : ℕ) → i ≡ length columns → fixed_cells ts (drop i columns) ≡ []
  none_left i all = ap (λ (left : List ℕ). fixed_cells ts left) (ap (λ (n : ℕ). drop n columns) all ∙ drop-length columns)

  pub one_fixed : (i d : ℕ) (before : List Cell) (c : Cell) → i < length columns → Some c ≡ equal_cell ts (get_or columns i d) →
      before ++ fixed_cells ts (drop i columns) ≡ fixed_cells ts columns →
      (before ++ c ∷ []) ++ fixed_cells ts (drop (i + 1) columns) ≡ fixed_cells ts columns
  one_fixed i d before c within is so_far =
      append_assoc before (c ∷ []) (fixed_cells ts (drop (i + 1) columns)) ∙ next_column i d before (Some c) within is so_far

  pub not_fixed : (i d : ℕ) (before : List Cell) → i < length columns → None ≡ equal_cell ts (get_or columns i d) →
      before ++ fixed_cells ts (drop i columns) ≡ fixed_cells ts columns → before ≡ fixed_cells ts columns
  not_fixed i d before within is so_far = sym (append-nil before) ∙ next_column i d before None within is so_far

  pub all_fixed : (i : ℕ) (before : List Cell) → i ≡ length columns → before ++ fixed_cells ts (drop i columns) ≡ fixed_cells ts columns → before ≡ fixed_cells ts columns
  all_fixed i before all so_far = sym (append-nil before) ∙ (ap (λ (left : List Cell). before ++ left) (sym (none_left i all)) ∙ so_far)

  -- ---- how many they are

  next_counted : (i d n : ℕ) (o : Option Cell) → i < length columns → o ≡ equal_cell ts (get_or columns i d) →
      n + length (fixed_cells ts (drop i columns)) ≡ length (fixed_cells ts columns) → n + length (in_front o (fixed_cells ts (drop (i + 1) columns))) ≡ length (fixed_cells ts columns)
  next_counted i d n o within is so_far =
      ap (λ (c : Option Cell). n + length (in_front c (fixed_cells ts (drop (i + 1) columns)))) is
      ∙ (ap (λ (left : List ℕ). n + length (fixed_cells ts left)) (sym (drop_more columns i d within)) ∙ so_far)

  pub one_counted : (i d n : ℕ) (c : Cell) → i < length columns → Some c ≡ equal_cell ts (get_or columns i d) →
      n + length (fixed_cells ts (drop i columns)) ≡ length (fixed_cells ts columns) → (n + 1) + length (fixed_cells ts (drop (i + 1) columns)) ≡ length (fixed_cells ts columns)
  one_counted i d n c within is so_far =
      let next : n + suc (length (fixed_cells ts (drop (i + 1) columns))) ≡ length (fixed_cells ts columns) = next_counted i d n (Some c) within is so_far in
      omega arith

  pub not_counted : (i d n : ℕ) → i < length columns → None ≡ equal_cell ts (get_or columns i d) →
      n + length (fixed_cells ts (drop i columns)) ≡ length (fixed_cells ts columns) → n ≡ length (fixed_cells ts columns)
  not_counted i d n within is so_far =
      let last : n + 0 ≡ length (fixed_cells ts columns) = next_counted i d n None within is so_far in
      omega arith

  pub all_counted : (i n : ℕ) → i ≡ length columns → n + length (fixed_cells ts (drop i columns)) ≡ length (fixed_cells ts columns) → n ≡ length (fixed_cells ts columns)
  all_counted i n all so_far =
      let last : length (fixed_cells ts (drop i columns)) ≡ 0 = ap length (none_left i all) in
      omega arith

-- ---- an index of a table

pub index_is : (table : TableDef) (place : ℕ) (d : IndexDef) → place < length table.indexes → get_or table.indexes place d ≡ index_at table place
index_is table place d within = get_or_default table.indexes place d no_index within

pub fixed_chosen : (table : TableDef) (ts : List tests.ColumnTest) (indexes : List IndexDef) (place : ℕ) → indexes ≡ table.indexes →
    Some place ≡ position (λ index. first_is (is_fixed ts) index.columns) indexes → Some place ≡ index_choice table ts
fixed_chosen table ts indexes place same is =
    ap (λ (f : Option ℕ). option_or f (position (λ index. first_is (is_bounded ts) index.columns) table.indexes))
    (is ∙ ap (position (λ (index : IndexDef). first_is (is_fixed ts) index.columns)) same)

pub index_chosen : (table : TableDef) (ts : List tests.ColumnTest) (indexes : List IndexDef) (o : Option ℕ) → indexes ≡ table.indexes →
    None ≡ position (λ index. first_is (is_fixed ts) index.columns) indexes → o ≡ position (λ index. first_is (is_bounded ts) index.columns) indexes → o ≡ index_choice table ts
index_chosen table ts indexes o same none is =
    is
    ∙ (ap (λ (f : Option ℕ). option_or f (position (λ index. first_is (is_bounded ts) index.columns) indexes)) none
    ∙ ap (λ (list : List IndexDef). option_or (position (λ index. first_is (is_fixed ts) index.columns) list) (position (λ index. first_is (is_bounded ts) index.columns) list)) same)
