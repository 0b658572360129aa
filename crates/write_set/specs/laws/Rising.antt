-- Laws: entries that rise still do after one is put in or taken away.
use Rattle.std.proofs.Common.{◌≡◌, List, [], ◌∷◌, refl, ap, ◌∙◌, Bool, true, false, arith}
use Rattle.std.specs.List.{AllByRecursion}
use Rattle.std.specs.List.Sorted.{IsStrictlySortedBy}
use Rattle.std.specs.Map.{keys_of, remove_entry}
use Rattle.std.specs.BTreeMap.{insert_entry}
use Rattle.std.specs.Ordering.{match_ordering, ordering_reverse}
use Rattle.std.specs.declared.cmp.Ordering.{Ordering}
use Rattle.std.specs.declared.cmp.Ordering.TheVariants.{Less, Equal, Greater}
use Rattle.geo_base.specs.declared.row_id.RowId.{RowId}
use Rattle.geo_base.specs.Order.{row_cmp}
use Rattle.geo_base.specs.laws.Orders.{row_cmp_total}
use Rattle.write_set.specs.Sets.{ChangeOfRow, Rises, IsWriteSet}

-- what one comparison says of the other way round
pub turned : (a b : RowId) (o : Ordering) → row_cmp a b ≡ o → row_cmp b a ≡ ordering_reverse o
turned a b o e = row_cmp_total.antisymm b a ∙ ap ordering_reverse e

module _ {X : Type 0} where
  -- the row is less than those of all the entries
  abbrev pub IsBelow : RowId → List (RowId × X) → Type 0
  IsBelow row entries = AllByRecursion (λ y. row_cmp row y ≡ Less) (keys_of entries)

  -- a row is less than all of which a greater one is less
  pub below_all : (a b : RowId) (l : List (RowId × X)) → row_cmp a b ≡ Less → IsBelow b l → IsBelow a l
  below_all a b [] h all = tt
  below_all a b (x ∷ l) h all = (row_cmp_total.trans a b x.0 h all.0, below_all a b l h all.1)

  -- an entry in front of rising ones, the first of which is greater
  pub rises_before : (p q : RowId × X) (l : List (RowId × X)) → row_cmp p.0 q.0 ≡ Less → Rises (q ∷ l) → Rises (p ∷ q ∷ l)
  unfolding IsStrictlySortedBy
  rises_before p q l h rises = ((h, below_all p.0 q.0 l h rises.0), rises)

  -- ---- an entry put in

  below_put_at : (o : Ordering) (a row : RowId) (value : X) (x : RowId × X) (l : List (RowId × X)) → row_cmp a row ≡ Less → IsBelow a (x ∷ l) → IsBelow a (insert_entry row_cmp l row value) → IsBelow a (match_ordering o ((row, value) ∷ x ∷ l) ((x.0, value) ∷ l) (x ∷ insert_entry row_cmp l row value))
  below_put_at Less a row value x l h all more = (h, all)
  below_put_at Equal a row value x l h all more = all
  below_put_at Greater a row value x l h all more = (all.0, more)

  below_put : (a row : RowId) (value : X) (l : List (RowId × X)) → row_cmp a row ≡ Less → IsBelow a l → IsBelow a (insert_entry row_cmp l row value)
  below_put a row value [] h all = (h, tt)
  below_put a row value (x ∷ l) h all = below_put_at (row_cmp row x.0) a row value x l h all (below_put a row value l h all.1)

  rises_put_at : (o : Ordering) (row : RowId) (value : X) (x : RowId × X) (l : List (RowId × X)) → row_cmp row x.0 ≡ o → Rises (x ∷ l) → Rises (insert_entry row_cmp l row value) → Rises (match_ordering o ((row, value) ∷ x ∷ l) ((x.0, value) ∷ l) (x ∷ insert_entry row_cmp l row value))
  unfolding IsStrictlySortedBy
  rises_put_at Less row value x l e rises more = ((e, below_all row x.0 l e rises.0), rises)
  rises_put_at Equal row value x l e rises more = rises
  rises_put_at Greater row value x l e rises more = (below_put x.0 row value l (turned row x.0 Greater e) rises.0, more)

  pub rises_put : (row : RowId) (value : X) (l : List (RowId × X)) → Rises l → Rises (insert_entry row_cmp l row value)
  unfolding IsStrictlySortedBy
  rises_put row value [] rises = (tt, tt)
  rises_put row value (x ∷ l) rises = rises_put_at (row_cmp row x.0) row value x l refl rises (rises_put row value l rises.1)

  -- ---- one taken away

  below_removed_at : (b : Bool) (test : RowId → Bool) (a : RowId) (x : RowId × X) (l : List (RowId × X)) → test x.0 ≡ b → IsBelow a (x ∷ l) → IsBelow a (remove_entry test l) → IsBelow a (remove_entry test (x ∷ l))
  below_removed_at true test a x l e all less = rw e all.1
  below_removed_at false test a x l e all less = rw e (all.0, less)

  below_removed : (test : RowId → Bool) (a : RowId) (l : List (RowId × X)) → IsBelow a l → IsBelow a (remove_entry test l)
  below_removed test a [] all = tt
  below_removed test a (x ∷ l) all = below_removed_at (test x.0) test a x l refl all (below_removed test a l all.1)

  rises_removed_at : (b : Bool) (test : RowId → Bool) (x : RowId × X) (l : List (RowId × X)) → test x.0 ≡ b → Rises (x ∷ l) → Rises (remove_entry test l) → Rises (remove_entry test (x ∷ l))
  unfolding IsStrictlySortedBy
  rises_removed_at true test x l e rises less = rw e rises.1
  rises_removed_at false test x l e rises less = rw e (below_removed test x.0 l rises.0, less)

  pub rises_removed : (test : RowId → Bool) (l : List (RowId × X)) → Rises l → Rises (remove_entry test l)
  unfolding IsStrictlySortedBy
  rises_removed test [] rises = tt
  rises_removed test (x ∷ l) rises = rises_removed_at (test x.0) test x l refl rises (rises_removed test l rises.1)

-- ---- a write set of one change

pub one_change : (p : ChangeOfRow) → IsWriteSet (p ∷ [])
unfolding IsStrictlySortedBy
one_change p = record { rising = (tt, tt); few = omega arith }
