-- What halving finds among entries that rise by row, and what a look-up finds at that place.
use Rattle.std.proofs.Common.{◌≡◌, ℕ, zero, suc, ◌+◌, ◌<◌, List, [], ◌∷◌, length, get_or, set, Some, None, Result, Ok, Err, IfOk, IfErr, refl, sym, ap, ◌∙◌, arith}
use Rattle.std.specs.List.Sorted.{IsSearchInRange, IsBinarySearchResult, IsNonDecreasingBy}
use Rattle.std.specs.Map.{keys_of, lookup, remove_entry}
use Rattle.std.specs.BTreeMap.{insert_entry, is_at}
use Rattle.std.specs.List.{insert, remove}
use Rattle.std.specs.Ordering.{ordering_index, is_lt}
use Rattle.std.specs.declared.cmp.Ordering.TheVariants.{Less, Equal, Greater}
use Rattle.std.proofs.Math.ListN.{get_or-map}
use Rattle.std.proofs.lemmas.Cmp.{alike_right}
use Rattle.std.proofs.lemmas.List.Sorted.{searchable_from_sorted}
use Rattle.std.proofs.lemmas.Map.Keys.{Less-from_sorted}
use Rattle.geo_base.specs.declared.row_id.RowId.{RowId}
use Rattle.geo_base.specs.Order.{row_cmp}
use Rattle.geo_base.specs.laws.Orders.{row_cmp_total}
use Rattle.write_set.specs.inner.Places.{StandsAt, FitsAt}
use Rattle.write_set.specs.Sets.{Rises}
use Rattle.write_set.specs.laws.Rising.{turned}

module _ {X : Type 0} (entries : List (RowId × X)) (rises : Rises entries) where
  -- the row of an entry is less than that of a later one
  later_is_greater : (i j : ℕ) (d : RowId × X) → i < j → j < length entries → row_cmp (get_or entries i d).0 (get_or entries j d).0 ≡ Less
  later_is_greater i j d lt within =
      let row = λ (e : RowId × X). e.0 in
      let rows : row_cmp (get_or (keys_of entries) i d.0) (get_or (keys_of entries) j d.0) ≡ Less = Less-from_sorted row_cmp (keys_of entries) i j d.0 rises lt (grind (arith, length_keys entries)) in
      rw (get_or-map row entries i d, get_or-map row entries j d) at rows
    where
      length_keys : (es : List (RowId × X)) → length (keys_of es) ≡ length es
      length_keys [] = refl
      length_keys (e ∷ es) = ap suc (length_keys es)

  module _ (row : RowId) where
    -- the comparisons with the row rise along the entries
    comparisons_rise : IsNonDecreasingBy (λ (e : RowId × X). ordering_index (row_cmp e.0 row)) entries
    comparisons_rise =
        searchable_from_sorted row_cmp_total (λ (e : RowId × X). e.0) entries row
        (λ k d low within. ap is_lt (turned _ _ Less (later_is_greater k (k + 1) d (omega arith) within)))

    -- a search by halving ends at the row's entry, or where it would go
    pub searched : (r : Result ℕ ℕ) → IsSearchInRange r (length entries) → IsBinarySearchResult (λ e. row_cmp e.0 row) entries r → record { found : IfOk r (StandsAt entries row); absent : IfErr r (FitsAt entries row) }
    searched (Ok place) within equal = record {
      found = record {
        within = within;
        above = λ j d lt. turned _ _ Less (sym (alike_right row_cmp_total _ row _ (equal d)) ∙ later_is_greater j place d lt within);
        here = λ d. turned _ _ Equal (equal d);
      };
      absent = tt;
    }
    searched (Err place) within parted = record {
      found = tt;
      absent = record {
        within = within;
        above = λ j d lt. turned _ _ Less ((parted comparisons_rise).0 j d (omega arith) lt);
        below = λ j d le lt. turned _ _ Greater ((parted comparisons_rise).1 j d le lt);
      };
    }

module _ {X : Type 0} (row : RowId) where
  tail_stands : (x : RowId × X) (l : List (RowId × X)) (place : ℕ) → StandsAt (x ∷ l) row (suc place) → StandsAt l row place
  tail_stands x l place at = record { within = omega (arith, at.within); above = λ j d lt. at.above (suc j) d (omega arith); here = at.here }

  tail_fits : (x : RowId × X) (l : List (RowId × X)) (place : ℕ) → FitsAt (x ∷ l) row (suc place) → FitsAt l row place
  tail_fits x l place at = record { within = omega (arith, at.within); above = λ j d lt. at.above (suc j) d (omega arith); below = λ j d le lt. at.below (suc j) d (omega arith) (omega arith) }

  -- the row's entry is the one that a look-up finds
  pub lookup_here : (l : List (RowId × X)) (place : ℕ) → StandsAt l row place → (d : RowId × X) → lookup (is_at (row_cmp row)) l ≡ Some (get_or l place d).1
  lookup_here [] place at d = absurd (omega (arith, at.within))
  lookup_here (x ∷ l) zero at d = rw (at.here d) refl
  lookup_here (x ∷ l) (suc place) at d = rw (at.above 0 x (omega arith)) (lookup_here l place (tail_stands x l place at) d)

  -- where the row would go to a place, a look-up finds nothing
  pub lookup_absent : (l : List (RowId × X)) (place : ℕ) → FitsAt l row place → lookup (is_at (row_cmp row)) l ≡ None
  lookup_absent [] place at = refl
  lookup_absent (x ∷ l) zero at = rw (at.below 0 x (omega arith) (omega arith)) (lookup_absent l zero (record { within = omega arith; above = λ j d lt. absurd (omega arith); below = λ j d le lt. at.below (suc j) d (omega arith) (omega arith) }))
  lookup_absent (x ∷ l) (suc place) at = rw (at.above 0 x (omega arith)) (lookup_absent l place (tail_fits x l place at))

module _ {X : Type 0} (row : RowId) (value : X) where
  -- a value written over that of the row's entry is put there
  pub put_here : (l : List (RowId × X)) (place : ℕ) (d : RowId × X) → StandsAt l row place → set l place ((get_or l place d).0, value) ≡ insert_entry row_cmp l row value
  put_here [] place d at = absurd (omega (arith, at.within))
  put_here (x ∷ l) zero d at = rw (at.here d) refl
  put_here (x ∷ l) (suc place) d at = rw (at.above 0 x (omega arith)) (ap (λ k. x ∷ k) (put_here l place d (tail_stands row x l place at)))

  -- so is a new entry where the row goes to
  pub put_new : (l : List (RowId × X)) (place : ℕ) → FitsAt l row place → insert l place (row, value) ≡ insert_entry row_cmp l row value
  put_new [] zero at = refl
  put_new [] (suc place) at = absurd (omega (arith, at.within))
  put_new (x ∷ l) zero at = rw (at.below 0 x (omega arith) (omega arith)) refl
  put_new (x ∷ l) (suc place) at = rw (at.above 0 x (omega arith)) (ap (λ k. x ∷ k) (put_new l place (tail_fits row x l place at)))

module _ {X : Type 0} (row : RowId) where
  -- without the row's entry
  pub removed_here : (l : List (RowId × X)) (place : ℕ) → StandsAt l row place → remove l place ≡ remove_entry (is_at (row_cmp row)) l
  removed_here [] place at = absurd (omega (arith, at.within))
  removed_here (x ∷ l) zero at = rw (at.here x) refl
  removed_here (x ∷ l) (suc place) at = rw (at.above 0 x (omega arith)) (ap (λ k. x ∷ k) (removed_here l place (tail_stands row x l place at)))

  -- where there is none, none is taken away
  pub removed_absent : (l : List (RowId × X)) → lookup (is_at (row_cmp row)) l ≡ None → l ≡ remove_entry (is_at (row_cmp row)) l
  removed_absent [] none = refl
  removed_absent (x ∷ l) none = grind (arith, removed_absent l)
