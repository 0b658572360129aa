-- Rows in rising order with one name: the one that a look-up finds.
use Rattle.std.proofs.Common.{◌≡◌, ◌≤◌, Bool, true, false, List, [], ◌∷◌, length, Option, Some, None, refl, sym, ap, ◌∙◌, arith}
use Rattle.std.specs.List.{AllByRecursion, filter}
use Rattle.std.specs.List.Sorted.{IsStrictlySortedBy}
use Rattle.std.specs.Map.{keys_of}
use Rattle.std.specs.Ordering.{is_eq}
use Rattle.std.proofs.lemmas.List.{length-map}
use Rattle.std.specs.declared.cmp.Ordering.{Ordering}
use Rattle.std.specs.declared.cmp.Ordering.TheVariants.{Less, Equal, Greater}
use Rattle.geo_base.specs.declared.row_id.RowId.{RowId}
use Rattle.geo_base.specs.declared.row_image.RowImage.{RowImage}
use Rattle.geo_base.specs.Order.{row_cmp, row_eq}
use Rattle.geo_base.specs.laws.Orders.{row_cmp_total, row_eq_ties}
use Rattle.row_source.specs.Sources.{Entry, images, listed}
use Rattle.write_set.specs.Overlay.{Table, image_in}
use Rattle.write_set.specs.Sets.{Rises}

-- the test of a name, by how it compares
tested : (row at : RowId) (o : Ordering) → row_cmp row at ≡ o → row_eq row at ≡ is_eq o
tested row at o is = row_eq_ties row at ∙ ap is_eq is

-- no row behind one with the name has it
none_behind : (rows : Table) (row at : RowId) → row_cmp row at ≡ Equal → AllByRecursion (λ y. row_cmp at y ≡ Less) (keys_of rows) →
    filter (λ entry. row_eq row entry.0) rows ≡ []
none_behind [] row at same all = refl
none_behind (e ∷ rows) row at same all =
    rw (tested row e.0 Less (row_cmp_total.congr row at e.0 same ∙ all.0)) (none_behind rows row at same all.1)

pub one_row : (rows : Table) (row : RowId) → Rises rows → images (filter (λ entry. row_eq row entry.0) rows) ≡ listed (image_in rows row)
unfolding IsStrictlySortedBy
one_row [] row rises = refl
one_row (e ∷ rows) row rises = by (row_cmp row e.0) refl (one_row rows row rises.1)
  where
    by : (o : Ordering) → row_cmp row e.0 ≡ o → images (filter (λ entry. row_eq row entry.0) rows) ≡ listed (image_in rows row) →
        images (filter (λ entry. row_eq row entry.0) (e ∷ rows)) ≡ listed (image_in (e ∷ rows) row)
    by Less is rest = rw (tested row e.0 Less is, is) rest
    by Greater is rest = rw (tested row e.0 Greater is, is) rest
    by Equal is rest = rw (tested row e.0 Equal is, is, none_behind rows row e.0 is rises.0) refl

one_listed : (o : Option RowImage) → length (listed o) ≤ 1
one_listed None = let n : length (listed None) ≡ 0 = refl in omega arith
one_listed (Some image) = let n : length (listed (Some image)) ≡ 1 = refl in omega arith

-- so at most one row has it
pub at_most_one : (rows : Table) (row : RowId) → Rises rows → length (filter (λ entry. row_eq row entry.0) rows) ≤ 1
at_most_one rows row rises =
    let as_many : length (filter (λ entry. row_eq row entry.0) rows) ≡ length (listed (image_in rows row)) =
    sym (length-map (filter (λ (entry : Entry). row_eq row entry.0) rows) (λ entry. entry.1)) ∙ ap length (one_row rows row rises) in
    let one : length (listed (image_in rows row)) ≤ 1 = one_listed (image_in rows row) in
    omega arith
