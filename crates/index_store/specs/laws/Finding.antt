-- Laws: the keys in a range of an index are those of the rows that were in it.
use Rattle.std.proofs.Common.{◌≡◌, ℕ, true, Option, None, Some, List, Contains, refl, sym, subst}
use Rattle.geo_base.specs.declared.cell.Cell.{Cell}
use Rattle.geo_base.specs.declared.row_image.RowImage.{RowImage}
use Rattle.geo_schema.specs.declared.range.KeyRange.{KeyRange}
use Rattle.geo_schema.specs.Indexes.{HasIndex, index_at, index_cells}
use Rattle.geo_schema.specs.Ranges.{is_within}
use Rattle.geo_schema.specs.Schemas.{Tables, table_at}
use Rattle.index_store.specs.declared.pair.IndexPair.{IndexPair}
use Rattle.index_store.specs.Indexes.{IsIndexOf}
use Rattle.index_store.specs.Kept.{KeptImages, IsKeptEpoch}
use Rattle.index_store.specs.Pairs.{row_of, IsPairIn}
use Rattle.index_store.specs.Ranges.{AreKeysIn}
use Rattle.index_store.specs.Rows.{WasIn, FindsRows}

module _ (tables : Tables) (kept : KeptImages) (pairs : List IndexPair) (table index : ℕ) (range : KeyRange) (keys : List (List Cell))
    (all : IsIndexOf tables kept pairs) (found : AreKeysIn table index range pairs keys) where
  finds_each : (key : List Cell) → WasIn tables kept table index range key → Contains keys key
  finds_each key was =
      found.each pair (all.each pair was.epoch was.is_kept (subst (IsPairIn tables pair) (sym was.has_image) (record { index = was.has_index; cells = refl })))
      (record { table = refl; index = refl; within = was.within })
    where
      pair : IndexPair
      pair = record { table = table; index = index; cells = index_cells (index_at (table_at tables table) index) was.image; key = key }

  -- of a pair that lies in the range and that its row had after the epoch
  was_in : (pair : IndexPair) → is_within range pair.cells ≡ true → (epoch : ℕ) → IsKeptEpoch kept epoch → (o : Option RowImage) →
      kept.image (row_of pair) epoch ≡ o → IsPairIn tables pair o → WasIn tables kept pair.table pair.index range pair.key
  was_in pair within epoch is_kept None is none = absurd none
  was_in pair within epoch is_kept (Some image) is had = record {
    epoch = epoch;
    image = image;
    is_kept = is_kept;
    has_image = is;
    has_index = had.index;
    within = subst (λ cells. is_within range cells ≡ true) (sym had.cells) within;
  }

  finds_only : (key : List Cell) → Contains keys key → WasIn tables kept table index range key
  finds_only key c =
      let (pair, among, lies, same_key) = found.only key c in
      let (epoch, is_kept, had) = all.only pair among in
      subst (λ k. WasIn tables kept table index range k) same_key
      (subst (λ i. WasIn tables kept table i range pair.key) lies.index
      (subst (λ t. WasIn tables kept t pair.index range pair.key) lies.table
      (was_in pair lies.within epoch is_kept (kept.image (row_of pair) epoch) refl had)))

  pub finds_rows : FindsRows tables kept table index range keys
  finds_rows = record { rising = found.rising; each = finds_each; only = finds_only }
