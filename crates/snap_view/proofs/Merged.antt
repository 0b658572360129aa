-- Own writes laid over rows, one write after another: what the rows below a write are, and what the write makes of those from it on.
use Rattle.std.proofs.Common.{◌≡◌, ℕ, zero, suc, ◌+◌, true, false, cond, Option, None, Some, List, [], ◌∷◌, ◌++◌, drop, refl, sym, ap, ◌∙◌, subst, append_assoc}
use Rattle.std.specs.List.{AllByRecursion}
use Rattle.std.specs.List.Sorted.{IsStrictlySortedBy}
use Rattle.std.specs.Map.{keys_of, remove_entry}
use Rattle.std.specs.BTreeMap.{insert_entry, is_at}
use Rattle.std.specs.Ordering.{is_eq, is_gt, is_lt, match_ordering, ordering_reverse}
use Rattle.std.specs.declared.cmp.Ordering.{Ordering}
use Rattle.std.specs.declared.cmp.Ordering.TheVariants.{Less, Equal, Greater}
use Rattle.std.proofs.lemmas.Cmp.{alike_right, tied_itself}
use Rattle.geo_base.specs.declared.row_id.RowId.{RowId}
use Rattle.geo_base.specs.declared.row_image.RowImage.{RowImage}
use Rattle.geo_base.specs.Order.{row_cmp}
use Rattle.geo_base.specs.laws.Orders.{row_cmp_total}
use Rattle.row_source.specs.Sources.{Entry, images, listed}
use Rattle.write_set.specs.declared.change.Change.TheVariants.{Put, Remove, Touch}
use Rattle.write_set.specs.Overlay.{Table, changed, overlay}
use Rattle.write_set.specs.Sets.{ChangeOfRow, Rises}
use Rattle.snap_view.specs.inner.Laying.{AreFrom, StartsFrom, behind, leaving}

turned : (a b : RowId) → row_cmp a b ≡ Less → row_cmp b a ≡ Greater
turned a b is = row_cmp_total.antisymm b a ∙ ap ordering_reverse is

turned_back : (a b : RowId) → row_cmp a b ≡ Greater → row_cmp b a ≡ Less
turned_back a b is = row_cmp_total.antisymm b a ∙ ap ordering_reverse is

turned_same : (a b : RowId) → row_cmp a b ≡ Equal → row_cmp b a ≡ Equal
turned_same a b is = row_cmp_total.antisymm b a ∙ ap ordering_reverse is

-- each of these rows is above the row
abbrev pub AreAbove : {X : Type 0} → RowId → List (RowId × X) → Type 0
AreAbove row entries = AllByRecursion (λ other. row_cmp row other ≡ Less) (keys_of entries)

-- ---- a row below all writes stays as it is

changed_behind : (e : Entry) (rows : Table) (own : ChangeOfRow) → row_cmp e.0 own.0 ≡ Less → changed own (e ∷ rows) ≡ e ∷ changed own rows
changed_behind e rows (row, Put image) below =
    ap (λ o. match_ordering o ((row, image) ∷ e ∷ rows) ((e.0, image) ∷ rows) (e ∷ insert_entry row_cmp rows row image)) (turned e.0 row below)
changed_behind e rows (row, Remove) below =
    ap (λ o. cond (is_eq o) rows (e ∷ remove_entry (is_at (row_cmp row)) rows)) (turned e.0 row below)
changed_behind e rows (row, Touch) below = refl

pub first_stays : (e : Entry) (rows : Table) (own : List ChangeOfRow) → AreAbove e.0 own → overlay (e ∷ rows) own ≡ e ∷ overlay rows own
first_stays e rows [] above = refl
first_stays e rows (write ∷ own) above =
    ap (λ r. overlay r own) (changed_behind e rows write above.0) ∙ first_stays e (changed write rows) own above.1

-- a row below one that all writes are from is below all of them
less_then : (a b c : RowId) → row_cmp a b ≡ Less → (o : Ordering) → row_cmp b c ≡ o → is_gt o ≡ false → row_cmp a c ≡ Less
less_then a b c below Less is h = row_cmp_total.trans a b c below is
less_then a b c below Equal is h = sym (alike_right row_cmp_total b c a is) ∙ below
less_then a b c below Greater is h = absurd (cc)

pub below_all : (row at : RowId) (own : List ChangeOfRow) → row_cmp row at ≡ Less → AreFrom at own → AreAbove row own
below_all row at [] below from = tt
below_all row at (write ∷ own) below from = (less_then row at write.0 below (row_cmp at write.0) refl from.0, below_all row at own below from.1)

-- so do images of rows below all writes
pub image_first : (e : Entry) (rows : Table) (own : List ChangeOfRow) (at : RowId) → is_lt (row_cmp e.0 at) ≡ true → AreFrom at own →
    images (overlay (e ∷ rows) own) ≡ e.1 ∷ images (overlay rows own)
image_first e rows own at below from = ap images (first_stays e rows own (below_all e.0 at own (is_Less (row_cmp e.0 at) below) from))
  where
    is_Less : (o : Ordering) → is_lt o ≡ true → o ≡ Less
    is_Less Less h = refl
    is_Less Equal h = absurd (cc)
    is_Less Greater h = absurd (cc)

-- rising writes are from the first one
pub rising_from : (write : ChangeOfRow) (own : List ChangeOfRow) → Rises (write ∷ own) → AreFrom write.0 (write ∷ own)
unfolding IsStrictlySortedBy
rising_from write own rises = (ap is_gt (tied_itself row_cmp_total write.0), rest own rises.0)
  where
    rest : (more : List ChangeOfRow) → AreAbove write.0 more → AreFrom write.0 more
    rest [] above = tt
    rest (next ∷ more) above = (ap is_gt above.0, rest more above.1)

-- ---- one write, where no row is below it

-- nothing goes where no row is at the place
none_removed : (row : RowId) (rows : Table) → AreAbove row rows → remove_entry (is_at (row_cmp row)) rows ≡ rows
none_removed row [] above = refl
none_removed row (e ∷ rows) above =
    ap (λ o. cond (is_eq o) rows (e ∷ remove_entry (is_at (row_cmp row)) rows)) above.0 ∙ ap (λ r. e ∷ r) (none_removed row rows above.1)

above_all : (row at : RowId) (rows : Table) → row_cmp row at ≡ Less → AreAbove at rows → AreAbove row rows
above_all row at [] below above = tt
above_all row at (e ∷ rows) below above = (row_cmp_total.trans row at e.0 below above.0, above_all row at rows below above.1)

alike_above : (row at : RowId) (own : List ChangeOfRow) → row_cmp at row ≡ Equal → AreAbove row own → AreAbove at own
alike_above row at [] same above = tt
alike_above row at (write ∷ own) same above = (row_cmp_total.congr at row write.0 same ∙ above.0, alike_above row at own same above.1)

-- the image that the write leaves, if it leaves one, and then what the other writes make of the rows behind it
one_made : (row : RowId) (left : Option RowImage) (rows : Table) (own : List ChangeOfRow) → Rises rows → AreAbove row own → StartsFrom row rows →
    images (overlay (changed (row, leaving left) rows) own) ≡ listed left ++ images (overlay (behind row rows) own)
unfolding IsStrictlySortedBy
one_made row None [] own rises above from = refl
one_made row (Some image) [] own rises above from = ap images (first_stays (row, image) [] own above)
one_made row left (e ∷ rows) own rises above from = by (row_cmp e.0 row) refl left from
  where
    at : (o : Ordering) → row_cmp row e.0 ≡ o → (image : RowImage) →
        insert_entry row_cmp (e ∷ rows) row image ≡ match_ordering o ((row, image) ∷ e ∷ rows) ((e.0, image) ∷ rows) (e ∷ insert_entry row_cmp rows row image)
    at o is image = ap (λ p. match_ordering p ((row, image) ∷ e ∷ rows) ((e.0, image) ∷ rows) (e ∷ insert_entry row_cmp rows row image)) is

    gone : (o : Ordering) → row_cmp row e.0 ≡ o →
        remove_entry (is_at (row_cmp row)) (e ∷ rows) ≡ cond (is_eq o) rows (e ∷ remove_entry (is_at (row_cmp row)) rows)
    gone o is = ap (λ p. cond (is_eq p) rows (e ∷ remove_entry (is_at (row_cmp row)) rows)) is

    by : (o : Ordering) → row_cmp e.0 row ≡ o → (left : Option RowImage) → is_lt o ≡ false →
        images (overlay (changed (row, leaving left) (e ∷ rows)) own) ≡ listed left ++ images (overlay (cond (is_eq o) rows (e ∷ rows)) own)
    by Less is left h = absurd (cc)
    by Equal is None h = ap (λ r. images (overlay r own)) (gone Equal (turned_same e.0 row is))
    by Equal is (Some image) h =
        ap (λ r. images (overlay r own)) (at Equal (turned_same e.0 row is) image)
        ∙ ap images (first_stays (e.0, image) rows own (alike_above row e.0 own is above))
    by Greater is None h =
        let less = turned_back e.0 row is in
        ap (λ r. images (overlay r own)) (gone Less less ∙ ap (λ r. e ∷ r) (none_removed row rows (above_all row e.0 rows less rises.0)))
    by Greater is (Some image) h =
        ap (λ r. images (overlay r own)) (at Less (turned_back e.0 row is) image)
        ∙ ap images (first_stays (row, image) (e ∷ rows) own above)

pub one_laid : (row : RowId) (left : Option RowImage) (rows : Table) (own : List ChangeOfRow) → Rises rows → Rises ((row, leaving left) ∷ own) → StartsFrom row rows →
    images (overlay rows ((row, leaving left) ∷ own)) ≡ listed left ++ images (overlay (behind row rows) own)
unfolding IsStrictlySortedBy
one_laid row left rows own rises own_rises from = one_made row left rows own rises own_rises.0 from

-- ---- one write after another, by the places of rows and writes

pub rises_from : {X : Type 0} (place : ℕ) (entries : List (RowId × X)) → Rises entries → Rises (drop place entries)
unfolding IsStrictlySortedBy
rises_from zero entries rises = rises
rises_from (suc place) [] rises = rises
rises_from (suc place) (e ∷ entries) rises = rises_from place entries rises.1

-- a row more is below the write
pub one_below : (rows : Table) (next : ℕ) (e : Entry) (row : RowId) (own : List ChangeOfRow) → drop next rows ≡ e ∷ drop (next + 1) rows →
    is_lt (row_cmp e.0 row) ≡ true → AreFrom row own → (found more : List RowImage) → more ≡ found ++ (e.1 ∷ []) →
    more ++ images (overlay (drop (next + 1) rows) own) ≡ found ++ images (overlay (drop next rows) own)
one_below rows next e row own at below from found more is =
    ap (λ l. l ++ images (overlay (drop (next + 1) rows) own)) is
    ∙ (append_assoc found (e.1 ∷ []) (images (overlay (drop (next + 1) rows) own))
    ∙ ap (λ l. found ++ l) (sym (ap (λ r. images (overlay r own)) at ∙ image_first e (drop (next + 1) rows) own row below from)))

module _ (rows : Table) (own : List ChangeOfRow) (rises : Rises rows) (own_rises : Rises own) (place write : ℕ) (all found : List RowImage)
    (so_far : found ++ images (overlay (drop place rows) (drop write own)) ≡ all) where
  -- a write more is laid over the rows
  pub write_laid : (row : RowId) (left : Option RowImage) → drop write own ≡ (row, leaving left) ∷ drop (write + 1) own →
      (next last : ℕ) (below more : List RowImage) →
      ((later : List ChangeOfRow) → AreFrom row later → below ++ images (overlay (drop next rows) later) ≡ found ++ images (overlay (drop place rows) later)) →
      StartsFrom row (drop next rows) → drop last rows ≡ behind row (drop next rows) → more ≡ below ++ listed left →
      more ++ images (overlay (drop last rows) (drop (write + 1) own)) ≡ all
  write_laid row left at next last below more rest from is_behind is =
      let here : Rises ((row, leaving left) ∷ drop (write + 1) own) = subst Rises at (rises_from write own own_rises) in
      let later : AreFrom row (drop write own) = subst (AreFrom row) (sym at) (rising_from (row, leaving left) (drop (write + 1) own) here) in
      (λ i. is i ++ images (overlay (is_behind i) (drop (write + 1) own)))
      ∙ (append_assoc below (listed left) (images (overlay (behind row (drop next rows)) (drop (write + 1) own)))
      ∙ (ap (λ l. below ++ l) (sym (one_laid row left (drop next rows) (drop (write + 1) own) (rises_from next rows rises) here from))
      ∙ (ap (λ w. below ++ images (overlay (drop next rows) w)) (sym at)
      ∙ (rest (drop write own) later ∙ so_far))))

  -- no write is left, and the rows that are left are added
  pub all_laid : drop write own ≡ [] → (whole : List RowImage) → whole ≡ found ++ images (drop place rows) → whole ≡ all
  all_laid none whole is = is ∙ (ap (λ w. found ++ images (overlay (drop place rows) w)) (sym none) ∙ so_far)
