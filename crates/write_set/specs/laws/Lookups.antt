-- Laws: what a look-up finds among entries after one is put in or taken away.
use Rattle.std.proofs.Common.{◌≡◌, Bool, true, false, cond, Option, None, Some, List, [], ◌∷◌, refl, sym, ap, ◌∙◌}
use Rattle.std.specs.Map.{keys_of, lookup, remove_entry}
use Rattle.std.specs.BTreeMap.{insert_entry, is_at}
use Rattle.std.specs.Ordering.{is_eq, match_ordering, eq_by_cmp}
use Rattle.std.specs.declared.cmp.Ordering.{Ordering}
use Rattle.std.specs.declared.cmp.Ordering.TheVariants.{Less, Equal, Greater}
use Rattle.std.proofs.lemmas.Cmp.{alike_right, eq_by_cmp_equiv}
use Rattle.std.proofs.lemmas.Map.{lookup-remove_entry}
use Rattle.std.proofs.lemmas.Map.Keys.{IsDistinct-from_sorted}
use Rattle.geo_base.specs.declared.row_id.RowId.{RowId}
use Rattle.geo_base.specs.Order.{row_cmp, row_eq}
use Rattle.geo_base.specs.laws.Orders.{row_cmp_total, row_eq_ties}
use Rattle.write_set.specs.Sets.{Rises}

is_Equal : (o : Ordering) → is_eq o ≡ true → o ≡ Equal
is_Equal Less e = cc
is_Equal Equal e = refl
is_Equal Greater e = cc

not_both : (row at low : RowId) → row_cmp row low ≡ Greater → is_eq (row_cmp at low) ≡ true → is_eq (row_cmp at row) ≡ true → ⊥
not_both row at low is b c =
    let same : row_cmp at low ≡ row_cmp row low = row_cmp_total.congr at row low (is_Equal (row_cmp at row) c) in
    let wrong : false ≡ true = sym (ap is_eq (same ∙ is)) ∙ b in
    cc

module _ {X : Type 0} where
  swap_tests : (b c : Bool) (x y z : Option X) → (b ≡ true → c ≡ true → ⊥) → cond b x (cond c z y) ≡ cond c z (cond b x y)
  swap_tests true true x y z apart = absurd (apart refl refl)
  swap_tests true false x y z apart = refl
  swap_tests false true x y z apart = refl
  swap_tests false false x y z apart = refl

  same_tests : (b c : Bool) (x y z : Option X) → c ≡ b → cond b z y ≡ cond c z (cond b x y)
  same_tests true true x y z same = refl
  same_tests true false x y z same = cc
  same_tests false true x y z same = cc
  same_tests false false x y z same = refl

  found_put : (l : List (RowId × X)) (row at : RowId) (value : X) →
      lookup (is_at (row_cmp at)) (insert_entry row_cmp l row value) ≡ cond (is_eq (row_cmp at row)) (Some value) (lookup (is_at (row_cmp at)) l)
  found_put [] row at value = refl
  found_put (e ∷ es) row at value = by (row_cmp row e.0) refl (found_put es row at value)
    where
      by : (o : Ordering) → row_cmp row e.0 ≡ o → lookup (is_at (row_cmp at)) (insert_entry row_cmp es row value) ≡ cond (is_eq (row_cmp at row)) (Some value) (lookup (is_at (row_cmp at)) es) →
          lookup (is_at (row_cmp at)) (match_ordering o ((row, value) ∷ e ∷ es) ((e.0, value) ∷ es) (e ∷ insert_entry row_cmp es row value))
          ≡ cond (is_eq (row_cmp at row)) (Some value) (lookup (is_at (row_cmp at)) (e ∷ es))
      by Less is rest = refl
      by Equal is rest =
          same_tests (is_eq (row_cmp at e.0)) (is_eq (row_cmp at row)) (Some e.1) (lookup (is_at (row_cmp at)) es) (Some value)
          (ap is_eq (alike_right row_cmp_total row e.0 at is))
      by Greater is rest =
          ap (cond (is_eq (row_cmp at e.0)) (Some e.1)) rest
          ∙ swap_tests (is_eq (row_cmp at e.0)) (is_eq (row_cmp at row)) (Some e.1) (lookup (is_at (row_cmp at)) es) (Some value) (not_both row at e.0 is)

  -- an entry that is put in is found at its row, and the others are found as before
  pub lookup_put : (l : List (RowId × X)) (row at : RowId) (value : X) →
      lookup (is_at (row_cmp at)) (insert_entry row_cmp l row value) ≡ cond (row_eq at row) (Some value) (lookup (is_at (row_cmp at)) l)
  lookup_put l row at value =
      found_put l row at value ∙ ap (λ b. cond b (Some value) (lookup (is_at (row_cmp at)) l)) (sym (row_eq_ties at row))

  found_removed : (l : List (RowId × X)) (row at : RowId) → Rises l →
      lookup (is_at (row_cmp at)) (remove_entry (is_at (row_cmp row)) l) ≡ cond (is_eq (row_cmp row at)) None (lookup (is_at (row_cmp at)) l)
  found_removed l row at h =
      lookup-remove_entry (eq_by_cmp_equiv row_cmp_total) (is_at (row_cmp row)) (eq_class row) at l (IsDistinct-from_sorted row_cmp (keys_of l) h)
    where
      eq_class : (row x y : RowId) → is_at (row_cmp row) x ≡ true → is_at (row_cmp row) y ≡ eq_by_cmp row_cmp x y
      eq_class row x y e = ap is_eq (row_cmp_total.congr row x y (is_Equal (row_cmp row x) e))

  -- nothing is found at a row whose entry is taken away, and the others are found as before
  pub lookup_removed : (l : List (RowId × X)) (row at : RowId) → Rises l →
      lookup (is_at (row_cmp at)) (remove_entry (is_at (row_cmp row)) l) ≡ cond (row_eq at row) None (lookup (is_at (row_cmp at)) l)
  lookup_removed l row at h =
      found_removed l row at h
      ∙ ap (λ b. cond b None (lookup (is_at (row_cmp at)) l)) ((eq_by_cmp_equiv row_cmp_total).symm row at ∙ sym (row_eq_ties at row))
