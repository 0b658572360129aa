-- Own writes laid over the rows that pass a test are those that pass it of the rows with all own writes laid over them.
use Rattle.std.proofs.Common.{◌≡◌, Bool, true, false, cond, ◌&&◌, Option, None, Some, List, refl, sym, ap, ◌∙◌}
use Rattle.std.specs.List.{filter}
use Rattle.std.specs.Option.{option_map}
use Rattle.geo_base.specs.declared.row_id.RowId.{RowId}
use Rattle.geo_base.specs.declared.row_image.RowImage.{RowImage}
use Rattle.row_source.specs.Sources.{Entry}
use Rattle.version_store.specs.laws.Listing.{same_tables}
use Rattle.write_set.specs.declared.change.Change.{Change}
use Rattle.write_set.specs.declared.change.Change.TheVariants.{Put, Remove, Touch}
use Rattle.write_set.specs.laws.Tables.{image_laid_over, rises_overlay}
use Rattle.write_set.specs.Overlay.{Table, overlay}
use Rattle.write_set.specs.Sets.{ChangeOfRow, Rises, alters}
use Rattle.write_set.specs.Snapshot.{image_over}
use Rattle.snap_view.specs.inner.Laying.{alterations, leaving}
use Rattle.snap_view.proofs.Tested.{passing, found, rises_passing, found_passing, mapped, rises_mapped, found_mapped}

both_ways : {a b : Option Change} {c d : Option RowImage} → a ≡ b → c ≡ d → image_over a c ≡ image_over b d
both_ways p q = λ i. image_over (p i) (q i)

module _ (base : Table) (own : List ChangeOfRow) (base_rises : Rises base) (own_rises : Rises own) (said : RowId → Bool) where
  abbrev writes : List ChangeOfRow
  writes = alterations (filter (λ c. said c.0) own)

  pub writes_rise : Rises writes
  writes_rise = rises_passing (λ c. alters c.1) (filter (λ c. said c.0) own) (rises_passing (λ c. said c.0) own own_rises)

  found_write : (row : RowId) → found row writes ≡ passing alters (passing (λ _. said row) (found row own))
  found_write row =
      found_passing (λ c. alters c.1) (filter (λ c. said c.0) own) row (rises_passing (λ c. said c.0) own own_rises)
      ∙ ap (passing alters) (found_passing (λ c. said c.0) own row own_rises)

  -- ---- a test of the name

  by_name : (b : Bool) (write : Option Change) (image : Option RowImage) →
      passing (λ _. b) (image_over write image) ≡ image_over (passing alters (passing (λ _. b) write)) (passing (λ _. b) image)
  by_name true None image = refl
  by_name true (Some (Put i)) image = refl
  by_name true (Some Remove) image = refl
  by_name true (Some Touch) image = refl
  by_name false None image = refl
  by_name false (Some (Put i)) None = refl
  by_name false (Some (Put i)) (Some j) = refl
  by_name false (Some Remove) None = refl
  by_name false (Some Remove) (Some j) = refl
  by_name false (Some Touch) image = refl

  pub laid_by_name : filter (λ (e : Entry). said e.0) (overlay base own) ≡ overlay (filter (λ (e : Entry). said e.0) base) writes
  laid_by_name =
      same_tables (filter (λ e. said e.0) (overlay base own)) (overlay (filter (λ e. said e.0) base) writes)
      (rises_passing (λ e. said e.0) (overlay base own) (rises_overlay base own base_rises))
      (rises_overlay (filter (λ e. said e.0) base) writes (rises_passing (λ e. said e.0) base base_rises))
      (λ row.
      found_passing (λ (e : Entry). said e.0) (overlay base own) row (rises_overlay base own base_rises)
      ∙ (ap (passing (λ _. said row)) (image_laid_over base own row base_rises own_rises)
      ∙ (by_name (said row) (found row own) (found row base)
      ∙ (both_ways (sym (found_write row)) (sym (found_passing (λ (e : Entry). said e.0) base row base_rises))
      ∙ sym (image_laid_over (filter (λ e. said e.0) base) writes row (rises_passing (λ e. said e.0) base base_rises) writes_rise)))))

  -- ---- a test of the name and of the image

  module _ (test : RowImage → Bool) (left : Change → Change) (puts : (image : RowImage) → left (Put image) ≡ leaving (cond (test image) (Some image) None))
      (removes : left Remove ≡ Remove) where
    abbrev both : Entry → Bool
    both e = said e.0 && test e.1

    put_by : (b : Bool) (image : RowImage) (before : Option RowImage) → cond b (Some image) None ≡ image_over (Some (leaving (cond b (Some image) None))) before
    put_by true image before = refl
    put_by false image before = refl

    by_both : (b : Bool) (write : Option Change) (image : Option RowImage) →
        passing (λ i. b && test i) (image_over write image) ≡ image_over (option_map left (passing alters (passing (λ _. b) write))) (passing (λ i. b && test i) image)
    by_both true None image = refl
    by_both true (Some (Put i)) image = put_by (test i) i (passing (λ i. true && test i) image) ∙ ap (λ c. image_over (Some c) (passing (λ i. true && test i) image)) (sym (puts i))
    by_both true (Some Remove) image = ap (λ c. image_over (Some c) (passing (λ i. true && test i) image)) (sym removes)
    by_both true (Some Touch) image = refl
    by_both false None image = refl
    by_both false (Some (Put i)) None = refl
    by_both false (Some (Put i)) (Some j) = refl
    by_both false (Some Remove) None = refl
    by_both false (Some Remove) (Some j) = refl
    by_both false (Some Touch) image = refl

    pub laid_by_both : filter both (overlay base own) ≡ overlay (filter both base) (mapped left writes)
    laid_by_both =
        same_tables (filter both (overlay base own)) (overlay (filter both base) (mapped left writes))
        (rises_passing both (overlay base own) (rises_overlay base own base_rises))
        (rises_overlay (filter both base) (mapped left writes) (rises_passing both base base_rises))
        (λ row.
        found_passing both (overlay base own) row (rises_overlay base own base_rises)
        ∙ (ap (passing (λ i. said row && test i)) (image_laid_over base own row base_rises own_rises)
        ∙ (by_both (said row) (found row own) (found row base)
        ∙ (both_ways (sym (step row)) (sym (found_passing both base row base_rises))
        ∙ sym (image_laid_over (filter both base) (mapped left writes) row (rises_passing both base base_rises) (rises_mapped left writes writes_rise))))))
      where
        step : (row : RowId) → found row (mapped left writes) ≡ option_map left (passing alters (passing (λ _. said row) (found row own)))
        step row = found_mapped left writes row ∙ ap (option_map left) (found_write row)
