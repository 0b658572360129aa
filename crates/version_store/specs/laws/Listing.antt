-- Laws: the rows that are listed at an epoch are those that are read at it, in rising order, and those of the journal's snapshot.
use Rattle.std.proofs.Common.{◌≡◌, ℕ, ◌≤◌, Bool, true, false, cond, not, ◌&&◌, Option, None, Some, unwrap_or, List, [], ◌∷◌, T, refl, sym, ap, ◌∙◌, subst}
use Rattle.std.specs.FinMap.Entries as entries
use Rattle.std.specs.List.{AllByRecursion, All, cons_option}
use Rattle.std.specs.List.Sorted.{IsStrictlySortedBy}
use Rattle.std.specs.Map.{keys_of}
use Rattle.std.specs.BTreeMap.{is_at}
use Rattle.std.specs.Option.{option_map}
use Rattle.std.specs.Ordering.{is_eq, is_lt}
use Rattle.std.specs.declared.cmp.Ordering.TheVariants.{Less, Equal}
use Rattle.std.proofs.lemmas.Cmp.{tied_itself}
use Rattle.std.proofs.lemmas.List.Elements.{All-head, All-tail, All-weaker}
use Rattle.geo_base.specs.declared.row_id.RowId.{RowId}
use Rattle.geo_base.specs.declared.row_image.RowImage.{RowImage}
use Rattle.geo_base.specs.Order.{row_cmp, row_eq}
use Rattle.geo_base.specs.laws.Orders.{row_cmp_total, same_row, row_eq_equiv, row_eq_ties}
use Rattle.write_set.specs.Sets.{Rises}
use Rattle.write_set.specs.Journal.{Journal, epochs_of}
use Rattle.write_set.specs.Overlay.{Table, image_in}
use Rattle.write_set.specs.Snapshot.{snap_rows}
use Rattle.write_set.specs.laws.Rivals.{row_same}
use Rattle.write_set.specs.laws.Tables.{rises_snap, image_snap}
use Rattle.page_map.specs.Borders.{pairs_between}
use Rattle.page_map.specs.Pairs.{IsRising, found_at}
use Rattle.page_map.specs.laws.Orders.{over_equal, found_nowhere}
use Rattle.version_store.specs.Chains.{Chain, image_at}
use Rattle.version_store.specs.History.{Kept, IsKept, IsHistoryOf}
use Rattle.version_store.specs.Listing.{rows_at, table_at}
use Rattle.version_store.specs.laws.Growing.{images}

-- ---- what is looked up

-- of the rows behind one there is none of its name
none_behind : (pair : RowId × Chain) (rest : List (RowId × Chain)) (row : RowId) → row ≡ pair.0 → All (λ later. row_cmp pair.0 later.0 ≡ Less) rest →
    found_at row_cmp row rest ≡ None
none_behind pair rest row same above =
    found_nowhere row_cmp row rest
    (All-weaker (λ later. row_cmp pair.0 later.0 ≡ Less) (λ later. is_eq (row_cmp later.0 row) ≡ false)
    (λ later less. subst (λ r. is_eq (row_cmp later.0 r) ≡ false) (sym same) (ap is_eq (over_equal row_cmp row_cmp_total pair.0 pair.0 later.0 (row_cmp_itself pair.0) less))) rest above)
  where
    row_cmp_itself : (r : RowId) → row_cmp r r ≡ Equal
    row_cmp_itself r = tied_itself row_cmp_total r

pub listed_is_read : (epoch : ℕ) (pairs : List (RowId × Chain)) (row : RowId) → IsRising row_cmp pairs →
    image_in (rows_at epoch pairs) row ≡ image_at (unwrap_or (found_at row_cmp row pairs) []) epoch
listed_is_read epoch [] row rising = refl
listed_is_read epoch (pair ∷ rest) row rising = by (row_eq row pair.0) (image_at pair.1 epoch) refl refl (listed_is_read epoch rest row rising.1)
  where
    turned : (b : Bool) → row_eq row pair.0 ≡ b → is_eq (row_cmp pair.0 row) ≡ b
    turned b is = sym (row_eq_ties pair.0 row) ∙ (row_eq_equiv.symm pair.0 row ∙ is)

    at_row : (b : Bool) → row_eq row pair.0 ≡ b → is_at (row_cmp row) pair.0 ≡ b
    at_row b is = sym (row_eq_ties row pair.0) ∙ is

    read : (b : Bool) → row_eq row pair.0 ≡ b →
        image_at (unwrap_or (found_at row_cmp row (pair ∷ rest)) []) epoch ≡ image_at (unwrap_or (cond b (Some pair.1) (found_at row_cmp row rest)) []) epoch
    read b is = ap (λ c. image_at (unwrap_or (cond c (Some pair.1) (found_at row_cmp row rest)) []) epoch) (turned b is)

    by : (b : Bool) (image : Option RowImage) → row_eq row pair.0 ≡ b → image_at pair.1 epoch ≡ image →
        image_in (rows_at epoch rest) row ≡ image_at (unwrap_or (found_at row_cmp row rest) []) epoch →
        image_in (cons_option (option_map (λ i. (pair.0, i)) image) (rows_at epoch rest)) row ≡ image_at (unwrap_or (found_at row_cmp row (pair ∷ rest)) []) epoch
    by true (Some image) is has same =
        ap (λ b. cond b (Some image) (image_in (rows_at epoch rest) row)) (at_row true is) ∙ (sym has ∙ sym (read true is))
    by true None is has same =
        same
        ∙ (ap (λ held. image_at (unwrap_or held []) epoch) (none_behind pair rest row (row_same row pair.0 is) rising.0)
        ∙ (sym has ∙ sym (read true is)))
    by false (Some image) is has same =
        ap (λ b. cond b (Some image) (image_in (rows_at epoch rest) row)) (at_row false is) ∙ (same ∙ sym (read false is))
    by false None is has same = same ∙ sym (read false is)

-- ---- in rising order

below_listed : (epoch : ℕ) (row : RowId) (pairs : List (RowId × Chain)) → All (λ later. row_cmp row later.0 ≡ Less) pairs →
    AllByRecursion (λ y. row_cmp row y ≡ Less) (keys_of (rows_at epoch pairs))
below_listed epoch row [] above = tt
below_listed epoch row (pair ∷ rest) above =
    by (image_at pair.1 epoch) (below_listed epoch row rest (All-tail (λ later. row_cmp row later.0 ≡ Less) pair rest above))
  where
    by : (image : Option RowImage) → AllByRecursion (λ y. row_cmp row y ≡ Less) (keys_of (rows_at epoch rest)) →
        AllByRecursion (λ y. row_cmp row y ≡ Less) (keys_of (cons_option (option_map (λ i. (pair.0, i)) image) (rows_at epoch rest)))
    by None below = below
    by (Some image) below = (All-head (λ later. row_cmp row later.0 ≡ Less) pair rest above, below)

rises_by : (pair : RowId × Chain) (rest : Table) (image : Option RowImage) → AllByRecursion (λ y. row_cmp pair.0 y ≡ Less) (keys_of rest) → Rises rest →
    Rises (cons_option (option_map (λ i. (pair.0, i)) image) rest)
unfolding IsStrictlySortedBy
rises_by pair rest None below rises = rises
rises_by pair rest (Some image) below rises = (below, rises)

pub listed_rises : (epoch : ℕ) (pairs : List (RowId × Chain)) → IsRising row_cmp pairs → Rises (rows_at epoch pairs)
unfolding IsStrictlySortedBy
listed_rises epoch [] rising = tt
listed_rises epoch (pair ∷ rest) rising =
    rises_by pair (rows_at epoch rest) (image_at pair.1 epoch) (below_listed epoch pair.0 rest rising.0) (listed_rises epoch rest rising.1)

-- ---- two rising tables with equal look-ups are one

both_hold : (a b : Bool) → T a → T b → T (a && b)
both_hold true b p q = q
both_hold false b p q = p

below_entries : (row : RowId) (rows : Table) → AllByRecursion (λ y. row_cmp row y ≡ Less) (keys_of rows) → T (entries.below_all row_cmp row rows)
below_entries row [] below = tt
below_entries row (p ∷ ps) below =
    both_hold (is_lt (row_cmp row p.0)) (entries.below_all row_cmp row ps) (subst (λ o. T (is_lt o)) (sym below.0) tt) (below_entries row ps below.1)

sorted_entries : (rows : Table) → Rises rows → T (entries.is_sorted row_cmp rows)
unfolding IsStrictlySortedBy
sorted_entries [] rises = tt
sorted_entries (p ∷ ps) rises =
    both_hold (entries.below_all row_cmp p.0 ps) (entries.is_sorted row_cmp ps) (below_entries p.0 ps rises.0) (sorted_entries ps rises.1)

found_so : (row : RowId) (rows : Table) → entries.find row_cmp row rows ≡ image_in rows row
found_so row [] = refl
found_so row (p ∷ ps) = ap (cond (is_at (row_cmp row) p.0) (Some p.1)) (found_so row ps)

pub same_tables : (a b : Table) → Rises a → Rises b → ((row : RowId) → image_in a row ≡ image_in b row) → a ≡ b
same_tables a b rise_a rise_b same =
    entries.same_entries row_cmp row_cmp_total same_row a b (sorted_entries a rise_a) (sorted_entries b rise_b)
    (λ row. found_so row a ∙ same row ∙ sym (found_so row b))

pub table_is_snapshot : (journal : Journal) (kept : Kept) (epoch : ℕ) → IsKept kept → IsHistoryOf journal kept →
    kept.horizon ≤ epoch → epoch ≤ kept.applied → table_at kept epoch ≡ snap_rows (epochs_of journal epoch)
table_is_snapshot journal kept epoch order history from upto =
    same_tables (table_at kept epoch) (snap_rows (epochs_of journal epoch)) (listed_rises epoch kept.rows order.rising) (rises_snap (epochs_of journal epoch))
    (λ row. listed_is_read epoch kept.rows row order.rising ∙ images journal kept row epoch history from upto ∙ sym (image_snap (epochs_of journal epoch) row))

-- ---- between borders

-- a row that stands between the borders or doesn't, and that there is or isn't
between_by : (first last : RowId → Bool) (epoch : ℕ) (pair : RowId × Chain) (rest : List (RowId × Chain)) (b : Bool) (image : Option RowImage) →
    (not (first pair.0) && last pair.0) ≡ b → image_at pair.1 epoch ≡ image →
    rows_at epoch (pairs_between first last rest) ≡ pairs_between first last (rows_at epoch rest) →
    rows_at epoch (cond b (pair ∷ pairs_between first last rest) (pairs_between first last rest))
    ≡ pairs_between first last (cons_option (option_map (λ i. (pair.0, i)) image) (rows_at epoch rest))
between_by first last epoch pair rest true (Some image) is has same =
    ap (λ i. cons_option (option_map (λ j. (pair.0, j)) i) (rows_at epoch (pairs_between first last rest))) has
    ∙ (ap (λ rows. (pair.0, image) ∷ rows) same
    ∙ sym (ap (λ b. cond b ((pair.0, image) ∷ pairs_between first last (rows_at epoch rest)) (pairs_between first last (rows_at epoch rest))) is))
between_by first last epoch pair rest true None is has same =
    ap (λ i. cons_option (option_map (λ j. (pair.0, j)) i) (rows_at epoch (pairs_between first last rest))) has ∙ same
between_by first last epoch pair rest false (Some image) is has same =
    same ∙ sym (ap (λ b. cond b ((pair.0, image) ∷ pairs_between first last (rows_at epoch rest)) (pairs_between first last (rows_at epoch rest))) is)
between_by first last epoch pair rest false None is has same = same

pub listed_between : (first last : RowId → Bool) (epoch : ℕ) (pairs : List (RowId × Chain)) →
    rows_at epoch (pairs_between first last pairs) ≡ pairs_between first last (rows_at epoch pairs)
listed_between first last epoch [] = refl
listed_between first last epoch (pair ∷ rest) =
    between_by first last epoch pair rest (not (first pair.0) && last pair.0) (image_at pair.1 epoch) refl refl (listed_between first last epoch rest)
