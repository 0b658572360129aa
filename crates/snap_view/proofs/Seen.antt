-- What a view hands out in a range: the rows of the snapshot in it, with what the own writes leave in it laid over them.
use Rattle.std.proofs.Common.{◌≡◌, ℕ, ◌&&◌, nat_eq, List, sym, ap, ◌∙◌, refl, subst}
use Rattle.std.specs.List.{filter}
use Rattle.geo_base.specs.declared.row_id.RowId.{RowId}
use Rattle.geo_schema.specs.declared.index.IndexDef.{IndexDef}
use Rattle.geo_schema.specs.declared.range.Edge.TheVariants.{Open}
use Rattle.geo_schema.specs.declared.range.KeyRange.{KeyRange}
use Rattle.geo_schema.specs.Indexes.{index_at, index_cells}
use Rattle.geo_schema.specs.Ranges.{is_within}
use Rattle.geo_schema.specs.Schemas.{Tables, table_at}
use Rattle.page_map.specs.Borders.{pairs_between}
use Rattle.row_source.specs.Sources.{images, images_by_index, images_by_key, is_by_index, is_by_key}
use Rattle.write_set.specs.Overlay.{Table, overlay}
use Rattle.write_set.specs.Sets.{ChangeOfRow, Rises}
use Rattle.snap_view.specs.inner.Edges.{is_before_high, is_before_low}
use Rattle.snap_view.specs.inner.Laying.{all_within, alterations, left_within, writes_of}
use Rattle.snap_view.proofs.Between.{between_keys, between_open}
use Rattle.snap_view.proofs.Overlaid.{laid_by_both, laid_by_name, writes_rise}
use Rattle.snap_view.proofs.Tested.{rises_mapped, rises_passing}

module _ (base : Table) (own : List ChangeOfRow) (base_rises : Rises base) (own_rises : Rises own) (table : ℕ) (range : KeyRange) where
  abbrev pub in_range : {X : Type 0} → List (RowId × X) → List (RowId × X)
  in_range entries = pairs_between (is_before_low table range.low) (is_before_high table range.high) entries

  -- ---- by keys

  pub range_rises : (rows : Table) → rows ≡ in_range base → Rises rows
  range_rises rows is = subst Rises (sym (is ∙ between_keys table range base)) (rises_passing (is_by_key table range) base base_rises)

  pub left_rises : (left : List ChangeOfRow) → left ≡ alterations (in_range own) → Rises left
  left_rises left is =
      subst Rises (sym (is ∙ ap alterations (between_keys table range own)))
      (writes_rise base own base_rises own_rises (λ row. nat_eq row.table table && is_within range row.key))

  pub seen_by_key : (rows : Table) (left : List ChangeOfRow) → rows ≡ in_range base → left ≡ alterations (in_range own) →
      images (overlay rows left) ≡ images_by_key table range (overlay base own)
  unfolding images_by_key
  seen_by_key rows left is_rows is_left =
      ap images
      ((λ i. overlay (is_rows i) (is_left i))
      ∙ ((λ i. overlay (between_keys table range base i) (alterations (between_keys table range own i)))
      ∙ sym (laid_by_name base own base_rises own_rises (λ row. nat_eq row.table table && is_within range row.key))))

  -- ---- by an index

  module _ (index : IndexDef) where
    pub within_rises : (rows : Table) → rows ≡ filter (is_by_index index table range) base → Rises rows
    within_rises rows is = subst Rises (sym is) (rises_passing (is_by_index index table range) base base_rises)

    pub left_within_rises : (left : List ChangeOfRow) → left ≡ all_within index range (writes_of table own) → Rises left
    left_within_rises left is =
        subst Rises (sym is)
        (rises_mapped (left_within index range) (writes_of table own) (writes_rise base own base_rises own_rises (λ row. nat_eq row.table table)))

    pub seen_by_index : (rows : Table) (left : List ChangeOfRow) → rows ≡ filter (is_by_index index table range) base → left ≡ all_within index range (writes_of table own) →
        images (overlay rows left) ≡ images (filter (is_by_index index table range) (overlay base own))
    seen_by_index rows left is_rows is_left =
        ap images
        ((λ i. overlay (is_rows i) (is_left i))
        ∙ sym (laid_by_both base own base_rises own_rises (λ row. nat_eq row.table table) (λ image. is_within range (index_cells index image)) (left_within index range) (λ image. refl) refl))

    -- the same as a source says it
    pub seen_in_index : (tables : Tables) (place : ℕ) → index ≡ index_at (table_at tables table) place → (rows : Table) (left : List ChangeOfRow) →
        rows ≡ filter (is_by_index index table range) base → left ≡ all_within index range (writes_of table own) →
        images (overlay rows left) ≡ images_by_index tables table place range (overlay base own)
    unfolding images_by_index
    seen_in_index tables place same rows left is_rows is_left =
        seen_by_index rows left is_rows is_left ∙ ap (λ i. images (filter (is_by_index i table range) (overlay base own))) same

-- the own writes of a table, as they are found between open edges
pub left_of_table : (own : List ChangeOfRow) (table : ℕ) (index : IndexDef) (range : KeyRange) (left found : List ChangeOfRow) →
    left ≡ alterations (pairs_between (is_before_low table Open) (is_before_high table Open) own) → found ≡ all_within index range left →
    found ≡ all_within index range (writes_of table own)
left_of_table own table index range left found is_left is_found = is_found ∙ ap (all_within index range) (is_left ∙ ap alterations (between_open table own))
