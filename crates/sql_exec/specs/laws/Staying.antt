-- Laws: rows of a schema stay rows of it under the net of sound changes.
use Rattle.std.proofs.Common.{◌≡◌, Bool, true, false, cond, Option, Some, None, List, [], ◌∷◌, All, refl, sym, ap, ◌∙◌, subst}
use Rattle.std.specs.Option.{is_some}
use Rattle.std.proofs.lemmas.Bool.{false≢true}
use Rattle.std.proofs.lemmas.List.Elements.{All-head, All-tail}
use Rattle.std.proofs.lemmas.Option.{none-some, same_Some}
use Rattle.geo_base.specs.Order.{row_eq}
use Rattle.geo_base.specs.declared.row_id.RowId.{RowId}
use Rattle.geo_base.specs.declared.row_image.RowImage.{RowImage}
use Rattle.geo_base.specs.laws.Orders.{row_eq_decides}
use Rattle.geo_schema.specs.Schemas.{Tables}
use Rattle.row_source.specs.Sources.{AreRowsOf, Fits}
use Rattle.sql_exec.specs.Changes.{IsSoundChange}
use Rattle.sql_exec.specs.laws.Reading.{all_from_found, found_from_all}
use Rattle.write_set.specs.declared.change.Change.{Change}
use Rattle.write_set.specs.declared.change.Change.TheVariants.{Put, Remove, Touch}
use Rattle.write_set.specs.declared.row_change.RowChange.{RowChange}
use Rattle.write_set.specs.laws.Tables.{image_laid_over, rises_overlay}
use Rattle.write_set.specs.Net.{IsNet, change_in, left_by, left_of}
use Rattle.write_set.specs.Overlay.{Table, image_in, overlay}
use Rattle.write_set.specs.Sets.{ChangeOfRow, Rises}
use Rattle.write_set.specs.Snapshot.{image_over}

module _ (tables : Tables) (base : Table) where
  -- what stands where a change is laid over the base fits
  abbrev LeavesFit : RowId → Option Change → Type 0
  LeavesFit row held = (image : RowImage) → image_over held (image_in base row) ≡ Some image → Fits tables (row, image)

  no_image : (o : Option RowImage) (image : RowImage) → is_some o ≡ false → o ≡ Some image → ⊥
  no_image None image h is = none-some image is
  no_image (Some x) image h is = false≢true (sym h)

  -- one change of the row
  left_fits : (row : RowId) (before : Bool) (change : Change) (held : Option Change) → before ≡ is_some (image_in base row) →
      ((image : RowImage) → change ≡ Put image → Fits tables (row, image)) → LeavesFit row held → LeavesFit row (left_by before change held)
  left_fits row before (Put new) held is fits old image found = fits image (ap Put (same_Some new image found))
  left_fits row true Remove held is fits old image found = absurd (none-some image found)
  left_fits row false Remove held is fits old image found = absurd (no_image (image_in base row) image (sym is) found)
  left_fits row before Touch None is fits old image found = old image found
  left_fits row before Touch (Some change) is fits old image found = old image found

  -- all changes
  all_left_fit : (changes : List RowChange) (row : RowId) (held : Option Change) → All (IsSoundChange tables base) changes → LeavesFit row held → LeavesFit row (left_of changes row held)
  all_left_fit [] row held sound old = old
  all_left_fit (c ∷ changes) row held sound old =
      all_left_fit changes row (cond (row_eq row c.row) (left_by c.before c.change held) held) (All-tail (IsSoundChange tables base) c changes sound) (by (row_eq row c.row) refl)
    where
      first : IsSoundChange tables base c
      first = All-head (IsSoundChange tables base) c changes sound

      by : (b : Bool) → row_eq row c.row ≡ b → LeavesFit row (cond b (left_by c.before c.change held) held)
      by false is = old
      by true is =
          let same : c.row ≡ row = sym ((row_eq_decides row c.row).0 is) in
          left_fits row c.before c.change held (subst (λ (r : RowId). c.before ≡ is_some (image_in base r)) same first.before)
          (λ image put. subst (λ (r : RowId). Fits tables (r, image)) same (first.fits image put)) old

  pub rows_stay : (own : List ChangeOfRow) (changes : List RowChange) (net : List ChangeOfRow) → Rises base → Rises own → AreRowsOf tables (overlay base own) →
      All (IsSoundChange tables base) changes → IsNet own changes net → AreRowsOf tables (overlay base net)
  rows_stay own changes net rises own_rises rows sound is = record {
    rising = rises_overlay base net rises;
    fit = all_from_found (Fits tables) (overlay base net) (rises_overlay base net rises) fits;
  }
    where
      before : (row : RowId) → LeavesFit row (change_in own row)
      before row image found = found_from_all (Fits tables) (overlay base own) row image rows.fit (image_laid_over base own row rises own_rises ∙ found)

      fits : (row : RowId) (image : RowImage) → image_in (overlay base net) row ≡ Some image → Fits tables (row, image)
      fits row image found =
          all_left_fit changes row (change_in own row) sound (before row) image
          (ap (λ (o : Option Change). image_over o (image_in base row)) (sym (is.rows row)) ∙ (sym (image_laid_over base net row rises is.rising) ∙ found))
