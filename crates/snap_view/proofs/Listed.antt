-- The rows of names, one name after another.
use Rattle.std.proofs.Common.{◌≡◌, ℕ, ◌+◌, ◌<◌, Option, None, Some, List, [], ◌∷◌, ◌++◌, length, map, take, get_or, refl, sym, ap, ◌∙◌, append-nil}
use Rattle.std.specs.List.{cons_option}
use Rattle.std.specs.Option.{option_map, option_to_list}
use Rattle.std.proofs.lemmas.List.{map-append, take_more}
use Rattle.std.proofs.lemmas.List.Elements.{filter_map-append}
use Rattle.geo_base.specs.declared.row_id.RowId.{RowId}
use Rattle.geo_base.specs.declared.row_image.RowImage.{RowImage}
use Rattle.geo_schema.specs.declared.index.IndexDef.{IndexDef}
use Rattle.geo_schema.specs.declared.range.KeyRange.{KeyRange}
use Rattle.row_source.specs.Sources.{Entry}
use Rattle.write_set.specs.Overlay.{Table}
use Rattle.snap_view.specs.inner.Naming.{entries_within, entry_within, image_within}

module _ {Y : Type 0} (tell : Y → Entry) (index : IndexDef) (range : KeyRange) (rows : Table) (names : List RowId) (place : ℕ) (name : RowId)
    (within : place < length names) (is : name ≡ get_or names place name) where
  alone : (o : Option Entry) → cons_option o [] ≡ option_to_list o
  alone None = refl
  alone (Some e) = refl

  one_more : entries_within index range rows (take (place + 1) names) ≡ entries_within index range rows (take place names) ++ option_to_list (entry_within index range rows name)
  one_more =
      ap (entries_within index range rows) (take_more names place name within ∙ ap (λ n. take place names ++ (n ∷ [])) (sym is))
      ∙ (filter_map-append (entry_within index range rows) (take place names) (name ∷ [])
      ∙ ap (λ l. entries_within index range rows (take place names) ++ l) (alone (entry_within index range rows name)))

  -- a row that lies in the range is listed
  pub entry_more : (so_far more : List Y) (y : Y) (image : RowImage) → map tell so_far ≡ entries_within index range rows (take place names) →
      image_within index range rows name ≡ Some image → more ≡ so_far ++ (y ∷ []) → tell y ≡ (name, image) →
      map tell more ≡ entries_within index range rows (take (place + 1) names)
  entry_more so_far more y image same lies pushed told =
      ap (map tell) pushed
      ∙ (map-append tell so_far (y ∷ [])
      ∙ ((λ i. same i ++ (told i ∷ []))
      ∙ (ap (λ o. entries_within index range rows (take place names) ++ option_to_list (option_map (λ j. (name, j)) o)) (sym lies)
      ∙ sym one_more)))

  -- and one that doesn't is not
  pub entry_none : (so_far more : List Y) → map tell so_far ≡ entries_within index range rows (take place names) →
      image_within index range rows name ≡ None → more ≡ so_far → map tell more ≡ entries_within index range rows (take (place + 1) names)
  entry_none so_far more same gone kept =
      ap (map tell) kept
      ∙ (same
      ∙ (sym (append-nil (entries_within index range rows (take place names)))
      ∙ (ap (λ o. entries_within index range rows (take place names) ++ option_to_list (option_map (λ j. (name, j)) o)) (sym gone)
      ∙ sym one_more)))
