-- What halving finds among rows in rising order, and that a look-up finds the same.
use Rattle.std.proofs.Common.{◌≡◌, ℕ, zero, suc, ◌+◌, ◌<◌, ◌≤◌, List, [], ◌∷◌, length, map, get_or, Some, None, Result, Ok, Err, refl, sym, ap, ◌∙◌, arith}
use Rattle.std.specs.List.Sorted.{IsSearchInRange, IsBinarySearchResult, IsNonDecreasingBy}
use Rattle.std.specs.Map.{keys_of}
use Rattle.std.specs.Ordering.{ordering_index, is_lt}
use Rattle.std.specs.declared.cmp.Ordering.TheVariants.{Less, Equal, Greater}
use Rattle.std.proofs.Math.ListN.{get_or-map}
use Rattle.std.proofs.lemmas.Cmp.{alike_right}
use Rattle.std.proofs.lemmas.List.Sorted.{searchable_from_sorted}
use Rattle.std.proofs.lemmas.Map.Keys.{Less-from_sorted}
use Rattle.geo_base.specs.declared.row_id.RowId.{RowId}
use Rattle.geo_base.specs.Order.{row_cmp}
use Rattle.geo_base.specs.laws.Orders.{row_cmp_total}
use Rattle.row_source.specs.declared.list_source.RowImageAt.{RowImageAt}
use Rattle.row_source.specs.Lists.{table_of}
use Rattle.write_set.specs.Overlay.{image_in}
use Rattle.write_set.specs.Sets.{Rises}
use Rattle.write_set.specs.laws.Rising.{turned}

abbrev names : List RowImageAt → List RowId
names rows = map (λ at. at.row) rows

keys_named : (rows : List RowImageAt) → keys_of (table_of rows) ≡ names rows
keys_named [] = refl
keys_named (at ∷ rows) = ap (λ rest. at.row ∷ rest) (keys_named rows)

length_names : (rows : List RowImageAt) → length (names rows) ≡ length rows
length_names [] = refl
length_names (at ∷ rows) = ap suc (length_names rows)

module _ (rows : List RowImageAt) (rises : Rises (table_of rows)) where
  -- a row is less than a later one
  later_is_greater : (i j : ℕ) (d : RowImageAt) → i < j → j < length rows → row_cmp (get_or rows i d).row (get_or rows j d).row ≡ Less
  later_is_greater i j d lt within =
      let name = λ (at : RowImageAt). at.row in
      let less : row_cmp (get_or (names rows) i d.row) (get_or (names rows) j d.row) ≡ Less =
      Less-from_sorted row_cmp (names rows) i j d.row (rw (sym (keys_named rows)) rises) lt (omega (arith, within, length_names rows)) in
      rw (get_or-map name rows i d, get_or-map name rows j d) at less

  -- the comparisons with a row rise along the rows
  comparisons_rise : (row : RowId) → IsNonDecreasingBy (λ (at : RowImageAt). ordering_index (row_cmp at.row row)) rows
  comparisons_rise row =
      searchable_from_sorted row_cmp_total (λ (at : RowImageAt). at.row) rows row
      (λ k d low within. ap is_lt (turned _ _ Less (later_is_greater k (k + 1) d (omega arith) within)))

-- a look-up finds the row at a place behind rows that are less
found_at : (rows : List RowImageAt) (row : RowId) (place : ℕ) (d : RowImageAt) → place < length rows →
    ((j : ℕ) → j < place → row_cmp row (get_or rows j d).row ≡ Greater) → row_cmp row (get_or rows place d).row ≡ Equal →
    image_in (table_of rows) row ≡ Some (get_or rows place d).image
found_at [] row place d within above here = absurd (omega (arith, within))
found_at (at ∷ rows) row zero d within above here = rw here refl
found_at (at ∷ rows) row (suc place) d within above here =
    rw (above 0 (omega arith)) (found_at rows row place d (omega (arith, within)) (λ j lt. above (suc j) (omega arith)) here)

-- and none where each row is less or greater
absent_from : (rows : List RowImageAt) (row : RowId) (place : ℕ) (d : RowImageAt) →
    ((j : ℕ) → j < place → j < length rows → row_cmp row (get_or rows j d).row ≡ Greater) →
    ((j : ℕ) → place ≤ j → j < length rows → row_cmp row (get_or rows j d).row ≡ Less) →
    image_in (table_of rows) row ≡ None
absent_from [] row place d above below = refl
absent_from (at ∷ rows) row zero d above below =
    rw (below 0 (omega arith) (omega arith))
    (absent_from rows row zero d (λ j lt. absurd (omega arith)) (λ j le within. below (suc j) (omega arith) (omega arith)))
absent_from (at ∷ rows) row (suc place) d above below =
    rw (above 0 (omega arith) (omega arith))
    (absent_from rows row place d (λ j lt within. above (suc j) (omega arith) (omega arith)) (λ j le within. below (suc j) (omega arith) (omega arith)))

-- what a search by halving has found is what a look-up finds
pub image_found : (rows : List RowImageAt) → Rises (table_of rows) → (row : RowId) (place : ℕ) (d : RowImageAt) →
    place < length rows → IsBinarySearchResult (λ at. row_cmp at.row row) rows (Ok place) →
    image_in (table_of rows) row ≡ Some (get_or rows place d).image
image_found rows rises row place d within equal =
    found_at rows row place d within
    (λ j lt. turned _ _ Less (sym (alike_right row_cmp_total _ row _ (equal d)) ∙ later_is_greater rows rises j place d lt within))
    (turned _ _ Equal (equal d))

-- where it has found nothing, a look-up finds nothing
pub image_absent : (rows : List RowImageAt) → Rises (table_of rows) → (row : RowId) (place : ℕ) →
    IsBinarySearchResult (λ at. row_cmp at.row row) rows (Err place) → image_in (table_of rows) row ≡ None
image_absent [] rises row place parted = refl
image_absent (at ∷ rows) rises row place parted =
    let sides = parted (comparisons_rise (at ∷ rows) rises row) in
    absent_from (at ∷ rows) row place at
    (λ j lt inside. turned _ _ Less (sides.0 j at (omega arith) lt))
    (λ j le inside. turned _ _ Greater (sides.1 j at le inside))
