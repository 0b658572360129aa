-- The rows of an epoch, as the code lists them.
use Rattle.std.proofs.Common.{◌≡◌, ℕ, ◌+◌, ◌<◌, Bool, Option, None, Some, List, [], ◌∷◌, ◌++◌, length, map, take, get_or, slice_range, refl, sym, ap, ◌∙◌}
use Rattle.std.specs.List.{cons_option}
use Rattle.std.specs.Option.{option_to_list}
use Rattle.std.proofs.lemmas.List.{append-nil, map-append, map_more}
use Rattle.std.proofs.lemmas.List.Elements.{filter_map-append}
use Rattle.geo_base.specs.declared.row_id.RowId.{RowId}
use Rattle.geo_base.specs.declared.row_image.RowImage.{RowImage}
use Rattle.page_map.specs.Borders.{IsBorder, border_in, pairs_between}
use Rattle.page_map.specs.laws.Borders.{between_places}
use Rattle.version_store.specs.Chains.{Chain}
use Rattle.version_store.specs.Listing.{row_at, rows_at}
use Rattle.version_store.specs.laws.Listing.{listed_between}
use Rattle.version_store.specs.inner.Writing.{Rows}

listed_alone : (epoch : ℕ) (pair : RowId × Chain) → rows_at epoch (pair ∷ []) ≡ option_to_list (row_at epoch pair)
listed_alone epoch pair = by (row_at epoch pair)
  where
    by : (row : Option (RowId × RowImage)) → cons_option row [] ≡ option_to_list row
    by None = refl
    by (Some row) = refl

-- one row more
pub listed_more : {X : Type 0} (see : X → RowId × Chain) (epoch : ℕ) (pairs : List X) (place : ℕ) (x : X) → place < length pairs → x ≡ get_or pairs place x →
    rows_at epoch (map see (take (place + 1) pairs)) ≡ rows_at epoch (map see (take place pairs)) ++ option_to_list (row_at epoch (see x))
listed_more see epoch pairs place x within read =
    ap (rows_at epoch) (map_more see pairs place x within ∙ ap (λ y. map see (take place pairs) ++ (see y ∷ [])) (sym read))
    ∙ (filter_map-append (row_at epoch) (map see (take place pairs)) (see x ∷ [])
    ∙ ap (λ rows. rows_at epoch (map see (take place pairs)) ++ rows) (listed_alone epoch (see x)))

-- a row that there was is listed, and one that there wasn't is not
module _ {X Y : Type 0} (see : X → RowId × Chain) (tell : Y → RowId × RowImage) (epoch : ℕ) (pairs : List X) (place : ℕ) (x : X) where
  pub listed_there : place < length pairs → x ≡ get_or pairs place x → (rows more : List Y) (y : Y) → map tell rows ≡ rows_at epoch (map see (take place pairs)) →
      Some (tell y) ≡ row_at epoch (see x) → more ≡ rows ++ (y ∷ []) → map tell more ≡ rows_at epoch (map see (take (place + 1) pairs))
  listed_there within read rows more y same there pushed =
      ap (map tell) pushed
      ∙ (map-append tell rows (y ∷ [])
      ∙ ((λ i. same i ++ option_to_list (there i))
      ∙ sym (listed_more see epoch pairs place x within read)))

  pub listed_not : place < length pairs → x ≡ get_or pairs place x → (rows more : List Y) → map tell rows ≡ rows_at epoch (map see (take place pairs)) →
      None ≡ row_at epoch (see x) → more ≡ rows → map tell more ≡ rows_at epoch (map see (take (place + 1) pairs))
  listed_not within read rows more same gone kept =
      ap (map tell) kept
      ∙ (sym (append-nil (map tell rows))
      ∙ ((λ i. same i ++ option_to_list (gone i))
      ∙ sym (listed_more see epoch pairs place x within read)))

-- of the pairs between two places those that there were are the rows between the borders of these places
pub listed_range : (first last : RowId → Bool) (epoch : ℕ) (rows held pairs : Rows) (low high : ℕ) → IsBorder first rows → IsBorder last rows → held ≡ rows →
    low ≡ border_in first held → high ≡ border_in last held → pairs ≡ slice_range held low high →
    rows_at epoch pairs ≡ pairs_between first last (rows_at epoch rows)
listed_range first last epoch rows held pairs low high is_first is_last same from upto among =
    ap (rows_at epoch) (among ∙ ((λ i. slice_range held (from i) (upto i)) ∙ (ap (λ r. slice_range r (border_in first r) (border_in last r)) same) ∙ sym (between_places first last rows is_first is_last)))
    ∙ listed_between first last epoch rows
