-- What is found of a row after the versions of one are put in or taken out.
use Rattle.std.proofs.Common.{◌≡◌, ℕ, Bool, true, false, cond, nat_eq, None, Some, [], ◌∷◌, length, refl, sym, ap, ◌∙◌, subst}
use Rattle.std.specs.Ordering.{is_eq}
use Rattle.geo_base.specs.declared.row_id.RowId.{RowId}
use Rattle.geo_base.specs.Order.{row_cmp, row_eq}
use Rattle.geo_base.specs.laws.Orders.{row_cmp_total, row_eq_equiv, row_eq_ties}
use Rattle.write_set.specs.laws.Rivals.{row_same}
use Rattle.page_map.specs.Pairs.{found_at, put_in, without}
use Rattle.page_map.specs.laws.Finding.{put_found, put_elsewhere, taken_found, taken_elsewhere}
use Rattle.version_store.specs.Chains.{Chain}
use Rattle.version_store.specs.inner.Writing.{Rows, settled}
use Rattle.version_store.specs.laws.Sameness.{some_of}

apart : (row at : RowId) → row_eq at row ≡ false → is_eq (row_cmp row at) ≡ false
apart row at is = sym (row_eq_ties row at) ∙ (row_eq_equiv.symm row at ∙ is)

pub found_put : (row at : RowId) (chain : Chain) (rows : Rows) →
    found_at row_cmp at (put_in row_cmp row chain rows) ≡ cond (row_eq at row) (Some chain) (found_at row_cmp at rows)
found_put row at chain rows = by (row_eq at row) refl
  where
    by : (b : Bool) → row_eq at row ≡ b → found_at row_cmp at (put_in row_cmp row chain rows) ≡ cond b (Some chain) (found_at row_cmp at rows)
    by true is =
        subst (λ r. found_at row_cmp r (put_in row_cmp row chain rows) ≡ Some chain) (sym (row_same at row is)) (put_found row_cmp row_cmp_total row chain rows)
    by false is = put_elsewhere row_cmp row_cmp_total row at chain rows (apart row at is)

pub found_taken : (row at : RowId) (rows : Rows) →
    found_at row_cmp at (without row_cmp row rows) ≡ cond (row_eq at row) None (found_at row_cmp at rows)
found_taken row at rows = by (row_eq at row) refl
  where
    by : (b : Bool) → row_eq at row ≡ b → found_at row_cmp at (without row_cmp row rows) ≡ cond b None (found_at row_cmp at rows)
    by true is =
        subst (λ r. found_at row_cmp r (without row_cmp row rows) ≡ None) (sym (row_same at row is)) (taken_found row_cmp row_cmp_total row rows)
    by false is = taken_elsewhere row_cmp row_cmp_total row at rows (apart row at is)

-- the versions that are found already, where there are as many of them
pub found_settled : (before : ℕ) (row at : RowId) (chain : Chain) (rows : Rows) →
    (nat_eq (length chain) before ≡ true → found_at row_cmp row rows ≡ Some chain) →
    found_at row_cmp at (settled before row chain rows) ≡ cond (row_eq at row) (some_of chain) (found_at row_cmp at rows)
found_settled before row at [] rows there = found_taken row at rows
found_settled before row at (version ∷ older) rows there = by (nat_eq (length (version ∷ older)) before) refl
  where
    stays : found_at row_cmp row rows ≡ Some (version ∷ older) → (b : Bool) → row_eq at row ≡ b →
        found_at row_cmp at rows ≡ cond b (Some (version ∷ older)) (found_at row_cmp at rows)
    stays found true is = ap (λ r. found_at row_cmp r rows) (row_same at row is) ∙ found
    stays found false is = refl

    by : (b : Bool) → nat_eq (length (version ∷ older)) before ≡ b →
        found_at row_cmp at (cond b rows (put_in row_cmp row (version ∷ older) rows)) ≡ cond (row_eq at row) (Some (version ∷ older)) (found_at row_cmp at rows)
    by true is = stays (there is) (row_eq at row) refl
    by false is = found_put row at (version ∷ older) rows
