-- Whether a row has a pair with an image.
use Rattle.std.proofs.Common.{◌≡◌, ◌⊎◌, inl, inr, ℕ, ◌<◌, ◌≤◌, Bool, true, false, Option, None, Some, List, length, refl, sym, ap, ◌∙◌, subst, arith}
use Rattle.std.specs.List.{slice_get}
use Rattle.std.proofs.lemmas.Bool.{cases_lt}
use Rattle.std.proofs.lemmas.Option.{slice_get-get_or, slice_get_within, get_or_from_slice_get}
use Rattle.geo_base.specs.declared.cell.Cell.{Cell}
use Rattle.geo_base.specs.declared.row_id.RowId.{RowId}
use Rattle.geo_base.specs.declared.row_image.RowImage.{RowImage}
use Rattle.geo_base.specs.Order.{cells_eq}
use Rattle.geo_base.specs.laws.Orders.{cells_eq_decides}
use Rattle.geo_schema.specs.declared.index.IndexDef.{IndexDef}
use Rattle.geo_schema.specs.Schemas.{Tables, table_at}
use Rattle.geo_schema.specs.Indexes.{no_index, index_at, index_cells}
use Rattle.index_store.specs.declared.pair.IndexPair.{IndexPair}
use Rattle.index_store.specs.Pairs.{row_of, IsPairOf, IsPairIn}
use Rattle.index_store.specs.inner.Following.{pair_in}

-- a pair is that of an image or it isn't
pub either : (tables : Tables) (pair : IndexPair) (image : Option RowImage) → IsPairIn tables pair image ⊎ (IsPairIn tables pair image → ⊥)
either tables pair None = inr (λ none. none)
either tables pair (Some image) =
    by (cases_lt pair.index (length (table_at tables pair.table).indexes)) (cells_eq (index_cells (index_at (table_at tables pair.table) pair.index) image) pair.cells) refl
  where
    by : ((pair.index < length (table_at tables pair.table).indexes) ⊎ (length (table_at tables pair.table).indexes ≤ pair.index)) →
        (b : Bool) → cells_eq (index_cells (index_at (table_at tables pair.table) pair.index) image) pair.cells ≡ b →
        IsPairOf tables pair image ⊎ (IsPairOf tables pair image → ⊥)
    by (inl within) true same =
        inl (record { index = within; cells = (cells_eq_decides (index_cells (index_at (table_at tables pair.table) pair.index) image) pair.cells).0 same })
    by (inl within) false other =
        inr (λ is.
        let no : true ≡ false = sym ((cells_eq_decides (index_cells (index_at (table_at tables pair.table) pair.index) image) pair.cells).1 is.cells) ∙ other in
        absurd (cc))
    by (inr past) b test = inr (λ is. omega (arith, is.index, past))

-- the pair of the row in the index at the place, with these cells
abbrev pub made : RowId → ℕ → List Cell → IndexPair
made row place cells = record { table = row.table; index = place; cells = cells; key = row.key }

-- the pair is of the row and of the place, and that of the image
pub record IsMade (tables : Tables) (of_row : RowId) (of_place : ℕ) (image : Option RowImage) (pair : IndexPair) : Type 0 where
  pub row : row_of pair ≡ of_row
  pub place : pair.index ≡ of_place
  pub had : IsPairIn tables pair image

-- a pair that is made of an image is so
pub made_is_had : (tables : Tables) (row : RowId) (place : ℕ) (index : IndexDef) (image : Option RowImage) (pair : IndexPair) →
    slice_get (table_at tables row.table).indexes place ≡ Some index → pair_in row place index image ≡ Some pair → IsMade tables row place image pair
made_is_had tables row place index None pair at is = absurd (cc)
made_is_had tables row place index (Some image) pair at is =
    let same : made row place (index_cells index image) ≡ pair = cc in
    subst (IsMade tables row place (Some image)) same
    (record {
      row = refl;
      place = refl;
      had = record {
        index = slice_get_within (table_at tables row.table).indexes place index at;
        cells = ap (λ i. index_cells i image) (get_or_from_slice_get (table_at tables row.table).indexes place index no_index at);
      };
    })

-- a pair of an image is made of it
had_is_made : (tables : Tables) (pair : IndexPair) (index : IndexDef) (image : Option RowImage) →
    slice_get (table_at tables pair.table).indexes pair.index ≡ Some index → IsPairIn tables pair image → pair_in (row_of pair) pair.index index image ≡ Some pair
had_is_made tables pair index None at none = absurd none
had_is_made tables pair index (Some image) at is =
    let same : index_at (table_at tables pair.table) pair.index ≡ index =
    get_or_from_slice_get (table_at tables pair.table).indexes pair.index index no_index at in
    ap (λ i. Some (made (row_of pair) pair.index (index_cells i image))) (sym same) ∙ ap (λ cells. Some (made (row_of pair) pair.index cells)) is.cells

pub made_again : (tables : Tables) (row : RowId) (place : ℕ) (index : IndexDef) (image : Option RowImage) (pair : IndexPair) →
    slice_get (table_at tables row.table).indexes place ≡ Some index → row_of pair ≡ row → pair.index ≡ place → IsPairIn tables pair image →
    pair_in row place index image ≡ Some pair
made_again tables row place index image pair at same_row same_place had =
    subst (λ (r : RowId). slice_get (table_at tables r.table).indexes place ≡ Some index → pair_in r place index image ≡ Some pair) same_row
    (subst (λ p. slice_get (table_at tables pair.table).indexes p ≡ Some index → pair_in (row_of pair) p index image ≡ Some pair) same_place
    (λ here. had_is_made tables pair index image here had)) at

-- the index of a pair that is had
pub index_of_had : (tables : Tables) (pair : IndexPair) (image : Option RowImage) → IsPairIn tables pair image →
    slice_get (table_at tables pair.table).indexes pair.index ≡ Some (index_at (table_at tables pair.table) pair.index)
index_of_had tables pair None none = absurd none
index_of_had tables pair (Some image) is = slice_get-get_or (table_at tables pair.table).indexes pair.index no_index is.index
