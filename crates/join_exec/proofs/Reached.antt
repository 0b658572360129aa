-- How many rows are handed out, and what a range without edges and a point reach.
use Rattle.std.proofs.Common.{◌≡◌, ℕ, Bool, true, false, nat_eq, List, [], ◌∷◌, length, map, refl, sym, ap, ◌∙◌}
use Rattle.std.specs.List.{filter}
use Rattle.std.proofs.lemmas.List.{length-map}
use Rattle.geo_base.specs.declared.cell.Cell.{Cell}
use Rattle.geo_schema.specs.Ranges.{is_within}
use Rattle.geo_schema.specs.declared.range.Edge.TheVariants.{Open}
use Rattle.geo_schema.specs.declared.range.KeyRange.{KeyRange}
use Rattle.row_source.specs.Sources.{images, is_by_key, of_table}
use Rattle.write_set.specs.Overlay.{Table}

-- what is handed out as the images of rows is as many as they are
pub as_many : {A : Type 0} (image : A → List Cell) (found : List A) (rows : Table) → map image found ≡ images rows → length found ≡ length rows
as_many image found rows same = sym (length-map found image) ∙ ap length same ∙ length-map rows (λ entry. entry.1)

-- a range without edges
abbrev pub open_range : KeyRange
open_range = record { low = Open; high = Open }

-- it has all rows of the table
pub all_rows : (table : ℕ) (rows : Table) → filter (is_by_key table open_range) rows ≡ of_table table rows
unfolding is_within
all_rows table [] = refl
all_rows table (e ∷ rows) = by (nat_eq e.0.table table) refl (all_rows table rows)
  where
    by : (b : Bool) → nat_eq e.0.table table ≡ b → filter (is_by_key table open_range) rows ≡ of_table table rows →
        filter (is_by_key table open_range) (e ∷ rows) ≡ of_table table (e ∷ rows)
    by true is rest = rw is (ap (λ (more : Table). e ∷ more) rest)
    by false is rest = rw is rest
