-- Rising entries: the next of them goes behind those before it, and none at all rise.
use Rattle.std.proofs.Common.{◌≡◌, ℕ, zero, suc, ◌+◌, ◌<◌, List, [], ◌∷◌, ◌++◌, length, take, get_or, refl, sym, ap, ◌∙◌, arith}
use Rattle.std.specs.List.{AllByRecursion}
use Rattle.std.specs.List.Sorted.{IsStrictlySortedBy}
use Rattle.std.specs.Map.{keys_of}
use Rattle.std.specs.BTreeMap.{insert_entry}
use Rattle.std.proofs.lemmas.List.{take_more}
use Rattle.std.specs.declared.cmp.Ordering.TheVariants.{Less, Greater}
use Rattle.geo_base.specs.declared.row_id.RowId.{RowId}
use Rattle.geo_base.specs.Order.{row_cmp}
use Rattle.write_set.specs.Sets.{Rises, IsWriteSet}
use Rattle.write_set.specs.laws.Rising.{turned}

module _ {X : Type 0} where
  below_at : (row : RowId) (l : List (RowId × X)) (i : ℕ) (d : RowId × X) → AllByRecursion (λ y. row_cmp row y ≡ Less) (keys_of l) → i < length l → row_cmp row (get_or l i d).0 ≡ Less
  below_at row [] i d all within = absurd (omega (arith, within))
  below_at row (x ∷ l) zero d all within = all.0
  below_at row (x ∷ l) (suc i) d all within = below_at row l i d all.1 (omega (arith, within))

  put_behind : (l : List (RowId × X)) (i : ℕ) (d : RowId × X) → Rises l → i < length l →
      insert_entry row_cmp (take i l) (get_or l i d).0 (get_or l i d).1 ≡ take i l ++ get_or l i d ∷ []
  unfolding IsStrictlySortedBy
  put_behind [] i d rises within = absurd (omega (arith, within))
  put_behind (x ∷ l) zero d rises within = refl
  put_behind (x ∷ l) (suc i) d rises within =
      let after : row_cmp (get_or l i d).0 x.0 ≡ Greater = turned x.0 (get_or l i d).0 Less (below_at x.0 l i d rises.0 (omega (arith, within))) in
      rw after (ap (λ es. x ∷ es) (put_behind l i d rises.1 (omega (arith, within))))

  -- the next of rising entries put into those before it
  pub put_next : (l : List (RowId × X)) (i : ℕ) (d : RowId × X) → Rises l → i < length l →
      insert_entry row_cmp (take i l) (get_or l i d).0 (get_or l i d).1 ≡ take (i + 1) l
  put_next l i d rises within = put_behind l i d rises within ∙ sym (take_more l i d within)

-- no changes are a write set
pub no_changes : IsWriteSet []
unfolding IsStrictlySortedBy
no_changes = record { rising = tt; few = omega arith }
