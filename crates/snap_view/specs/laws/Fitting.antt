-- Laws: a snapshot's rows fit a schema where the images that are kept do; rows with own writes laid over them where the rows do, and what the writes put.
use Rattle.std.proofs.Common.{◌≡◌, Bool, true, false, cond, Some, List, [], ◌∷◌, Contains, refl, sym, ◌∙◌, subst}
use Rattle.std.specs.BTreeMap.{insert_entry, is_at}
use Rattle.std.specs.List.{All}
use Rattle.std.specs.Map.{keys_of, remove_entry}
use Rattle.std.specs.Ordering.{match_ordering}
use Rattle.std.specs.declared.cmp.Ordering.{Ordering}
use Rattle.std.specs.declared.cmp.Ordering.TheVariants.{Less, Equal, Greater}
use Rattle.std.specs.Cmp.{eq_by_cmp_equiv}
use Rattle.std.proofs.lemmas.List.Elements.{All-nil, All-cons, All-head, All-tail, All-weaker, All-contains_itself}
use Rattle.std.proofs.lemmas.Map.Keys.{IsDistinct-from_sorted}
use Rattle.std.proofs.lemmas.Map.Views.{lookup-from_Contains}
use Rattle.geo_base.specs.declared.row_id.RowId.{RowId}
use Rattle.geo_base.specs.declared.row_image.RowImage.{RowImage}
use Rattle.geo_base.specs.Order.{row_cmp}
use Rattle.geo_base.specs.laws.Orders.{row_cmp_total, same_row}
use Rattle.geo_schema.specs.Schemas.{Tables}
use Rattle.row_source.specs.Sources.{AreRowsOf, Entry, Fits}
use Rattle.version_store.specs.History.{chain_of}
use Rattle.version_store.specs.laws.Keeping.{read_is_version}
use Rattle.version_store.specs.laws.Listing.{listed_is_read, listed_rises}
use Rattle.write_set.specs.declared.change.Change.TheVariants.{Put, Remove, Touch}
use Rattle.write_set.specs.laws.Among.{among_first, among_later}
use Rattle.write_set.specs.laws.Tables.{rises_overlay}
use Rattle.write_set.specs.Overlay.{Table, changed, image_in, overlay}
use Rattle.write_set.specs.Sets.{ChangeOfRow, Rises}
use Rattle.snap_view.specs.Snapshots.{Held, ImagesFit, IsSnapshot, rows_of}
use Rattle.snap_view.specs.Views.{PutsFit}

-- ---- the rows of a snapshot

pub rows_fit : (tables : Tables) (held : Held) → IsSnapshot held → ImagesFit tables held.versions → AreRowsOf tables (rows_of held)
rows_fit tables held is fit = record {
  rising = rises;
  fit =
      All-weaker (Contains (rows_of held)) (Fits tables)
      (λ entry among. of_version entry (lookup-from_Contains (eq_by_cmp_equiv row_cmp_total) entry.0 entry.1 (rows_of held) (IsDistinct-from_sorted row_cmp (keys_of (rows_of held)) rises) among))
      (rows_of held) (All-contains_itself (rows_of held));
}
  where
    rises : Rises (rows_of held)
    rises = listed_rises held.epoch held.versions.rows is.order.rising

    -- what is looked up is the image of a version
    of_version : (entry : Entry) → image_in (rows_of held) entry.0 ≡ Some entry.1 → Fits tables entry
    of_version entry found =
        let (version, among, image) =
        read_is_version (chain_of held.versions entry.0) held.epoch entry.1 (sym (listed_is_read held.epoch held.versions.rows entry.0 is.order.rising) ∙ found) in
        fit entry.0 version entry.1 among image

-- ---- rows with own writes laid over them

module _ (P : Entry → Type 0) where
  all_put : (rows : Table) (row : RowId) (image : RowImage) → All P rows → P (row, image) → All P (insert_entry row_cmp rows row image)
  all_put [] row image all fits = All-cons P (row, image) [] fits (All-nil P)
  all_put (e ∷ rows) row image all fits = by (row_cmp row e.0) refl (all_put rows row image (All-tail P e rows all) fits)
    where
      by : (o : Ordering) → row_cmp row e.0 ≡ o → All P (insert_entry row_cmp rows row image) →
          All P (match_ordering o ((row, image) ∷ e ∷ rows) ((e.0, image) ∷ rows) (e ∷ insert_entry row_cmp rows row image))
      by Less is rest = All-cons P (row, image) (e ∷ rows) fits all
      by Equal is rest = All-cons P (e.0, image) rows (subst (λ r. P (r, image)) (same_row row e.0 is) fits) (All-tail P e rows all)
      by Greater is rest = All-cons P e (insert_entry row_cmp rows row image) (All-head P e rows all) rest

  all_removed : (rows : Table) (row : RowId) → All P rows → All P (remove_entry (is_at (row_cmp row)) rows)
  all_removed [] row all = all
  all_removed (e ∷ rows) row all = by (is_at (row_cmp row) e.0) (all_removed rows row (All-tail P e rows all))
    where
      by : (b : Bool) → All P (remove_entry (is_at (row_cmp row)) rows) → All P (cond b rows (e ∷ remove_entry (is_at (row_cmp row)) rows))
      by true rest = All-tail P e rows all
      by false rest = All-cons P e (remove_entry (is_at (row_cmp row)) rows) (All-head P e rows all) rest

all_changed : (tables : Tables) (rows : Table) (write : ChangeOfRow) (own : List ChangeOfRow) → All (Fits tables) rows → PutsFit tables (write ∷ own) → All (Fits tables) (changed write rows)
all_changed tables rows (row, Put image) own all fit = all_put (Fits tables) rows row image all (fit row image (among_first (row, Put image) own))
all_changed tables rows (row, Remove) own all fit = all_removed (Fits tables) rows row all
all_changed tables rows (row, Touch) own all fit = all

all_fit : (tables : Tables) (rows : Table) (own : List ChangeOfRow) → All (Fits tables) rows → PutsFit tables own → All (Fits tables) (overlay rows own)
all_fit tables rows [] all fit = all
all_fit tables rows (write ∷ own) all fit =
    all_fit tables (changed write rows) own (all_changed tables rows write own all fit) (λ row image among. fit row image (among_later write (row, Put image) own among))

pub overlay_fits : (tables : Tables) (base : Table) (own : List ChangeOfRow) → AreRowsOf tables base → PutsFit tables own → AreRowsOf tables (overlay base own)
overlay_fits tables base own are fit = record {
  rising = rises_overlay base own are.rising;
  fit = all_fit tables base own are.fit fit;
}
