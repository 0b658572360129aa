-- Laws: the rows after some epochs, as a list and as a function of the row.
use Rattle.std.proofs.Common.{◌≡◌, Bool, true, false, cond, Option, Some, List, [], ◌∷◌, refl, sym, ap, ◌∙◌, subst}
use Rattle.std.specs.List.Sorted.{IsStrictlySortedBy}
use Rattle.std.specs.BTreeMap.{is_at}
use Rattle.geo_base.specs.declared.row_id.RowId.{RowId}
use Rattle.geo_base.specs.declared.row_image.RowImage.{RowImage}
use Rattle.geo_base.specs.Order.{row_cmp, row_eq}
use Rattle.geo_base.specs.laws.Orders.{row_eq_ties}
use Rattle.write_set.specs.declared.change.Change.TheVariants.{Put, Remove, Touch}
use Rattle.write_set.specs.Sets.{ChangeOfRow, has_row, Rises}
use Rattle.write_set.specs.Net.{change_in}
use Rattle.write_set.specs.Journal.{Epochs}
use Rattle.write_set.specs.Merge.{committed}
use Rattle.write_set.specs.laws.Isolating.{row_once, rise_rest, not_changed, after_none}
use Rattle.write_set.specs.laws.Lookups.{lookup_put, lookup_removed}
use Rattle.write_set.specs.laws.Rising.{rises_put, rises_removed}
use Rattle.write_set.specs.laws.Rivals.{row_same}
use Rattle.write_set.specs.Overlay.{Table, image_in, changed, overlay}
use Rattle.write_set.specs.Snapshot.{changes_of, image_left, image_over, image_after, snap_at, snap_rows}

-- ---- a change keeps the order of the rows

rises_changed : (p : ChangeOfRow) (rows : Table) → Rises rows → Rises (changed p rows)
rises_changed (row, Put image) rows h = rises_put row image rows h
rises_changed (row, Remove) rows h = rises_removed (is_at (row_cmp row)) rows h
rises_changed (row, Touch) rows h = h

pub rises_overlay : (rows : Table) (ps : List ChangeOfRow) → Rises rows → Rises (overlay rows ps)
rises_overlay rows [] h = h
rises_overlay rows (p ∷ ps) h = rises_overlay (changed p rows) ps (rises_changed p rows h)

pub rises_snap : (epochs : Epochs) → Rises (snap_rows epochs)
unfolding IsStrictlySortedBy
rises_snap [] = tt
rises_snap (all ∷ older) = rises_overlay (snap_rows older) (changes_of (committed (all ∷ older))) (rises_snap older)

-- ---- the image of each row

either_same : {X : Type 0} (b : Bool) (x : X) → cond b x x ≡ x
either_same true x = refl
either_same false x = refl

-- after a change the changed row has the image that the change leaves, and the others have theirs
image_changed : (p : ChangeOfRow) (rows : Table) (row : RowId) → Rises rows →
    image_in (changed p rows) row ≡ cond (row_eq row p.0) (image_left p.1 (image_in rows row)) (image_in rows row)
image_changed (at, Put image) rows row h = lookup_put rows at row image
image_changed (at, Remove) rows row h = lookup_removed rows at row h
image_changed (at, Touch) rows row h = sym (either_same (row_eq row at) (image_in rows row))

image_overlay : (rows : Table) (ps : List ChangeOfRow) (row : RowId) → Rises rows →
    image_in (overlay rows ps) row ≡ image_after ps row (image_in rows row)
image_overlay rows [] row h = refl
image_overlay rows (p ∷ ps) row h =
    image_overlay (changed p rows) ps row (rises_changed p rows h) ∙ ap (image_after ps row) (image_changed p rows row h)

-- of changes that have each row once, the one of the row is what the row becomes
image_by_set : (ps : List ChangeOfRow) (row : RowId) (image : Option RowImage) → Rises ps →
    image_after ps row image ≡ image_over (change_in ps row) image
image_by_set [] row image rise = refl
image_by_set (p ∷ ps) row image rise =
    by (row_eq row p.0) refl (image_by_set ps row image (rise_rest p ps rise))
    ∙ ap (λ b. image_over (cond b (Some p.1) (change_in ps row)) image) (row_eq_ties row p.0)
  where
    by : (e : Bool) → row_eq row p.0 ≡ e → image_after ps row image ≡ image_over (change_in ps row) image →
        image_after ps row (cond e (image_left p.1 image) image) ≡ image_over (cond e (Some p.1) (change_in ps row)) image
    by true is rest =
        let once : has_row row ps ≡ false = subst (λ r. has_row r ps ≡ false) (sym (row_same row p.0 is)) (row_once p ps rise) in
        after_none ps row (image_left p.1 image) (not_changed row ps once)
    by false is rest = rest

-- a look-up in the rows with the changes laid over them
pub image_laid_over : (rows : Table) (ps : List ChangeOfRow) (row : RowId) → Rises rows → Rises ps →
    image_in (overlay rows ps) row ≡ image_over (change_in ps row) (image_in rows row)
image_laid_over rows ps row h rise = image_overlay rows ps row h ∙ image_by_set ps row (image_in rows row) rise

-- a look-up in the snapshot's rows gives the snapshot
pub image_snap : (epochs : Epochs) (row : RowId) → image_in (snap_rows epochs) row ≡ snap_at epochs row
image_snap [] row = refl
image_snap (all ∷ older) row =
    let changes = changes_of (committed (all ∷ older)) in
    image_overlay (snap_rows older) changes row (rises_snap older) ∙ ap (image_after changes row) (image_snap older row)
