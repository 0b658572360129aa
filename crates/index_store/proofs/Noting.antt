-- What is noted of a row in an index: nothing where its cells are the same with both images, and else the pairs of both.
use Rattle.std.proofs.Common.{◌≡◌, ℕ, Bool, true, false, cond, Option, [], ap, ◌∙◌}
use Rattle.std.specs.List.{cons_option}
use Rattle.std.specs.Option.{option_map}
use Rattle.std.specs.Cmp.Lexicographic.{options_equiv}
use Rattle.geo_base.specs.declared.row_id.RowId.{RowId}
use Rattle.geo_base.specs.declared.row_image.RowImage.{RowImage}
use Rattle.geo_base.specs.laws.Orders.{cells_eq_equiv}
use Rattle.geo_schema.specs.declared.index.IndexDef.{IndexDef}
use Rattle.geo_schema.specs.Indexes.{index_cells}
use Rattle.index_store.specs.inner.Following.{are_alike, pair_in, only_first}

module _ (row : RowId) (place : ℕ) (index : IndexDef) (a b : Option RowImage) where
  turned : (r : Bool) → are_alike index a b ≡ r → are_alike index b a ≡ r
  turned r test = (options_equiv cells_eq_equiv).symm (option_map (index_cells index) b) (option_map (index_cells index) a) ∙ test

  pub none_apart : are_alike index a b ≡ true → (only_first row place index a b ≡ []) × (only_first row place index b a ≡ [])
  none_apart same =
      (ap (λ r. cond r [] (cons_option (pair_in row place index a) [])) same, ap (λ r. cond r [] (cons_option (pair_in row place index b) [])) (turned true same))

  pub all_apart : are_alike index a b ≡ false →
      (only_first row place index a b ≡ cons_option (pair_in row place index a) []) × (only_first row place index b a ≡ cons_option (pair_in row place index b) [])
  all_apart differs =
      (ap (λ r. cond r [] (cons_option (pair_in row place index a) [])) differs, ap (λ r. cond r [] (cons_option (pair_in row place index b) [])) (turned false differs))
