-- Laws: which changes are sound.
use Rattle.std.proofs.Common.{◌≡◌, refl, subst, sym}
use Rattle.geo_base.specs.declared.row_id.RowId.{RowId}
use Rattle.geo_base.specs.declared.row_image.RowImage.{RowImage}
use Rattle.geo_schema.specs.Schemas.{Tables}
use Rattle.row_source.specs.Sources.{Fits}
use Rattle.sql_exec.specs.Changes.{IsPut, IsSoundChange}
use Rattle.sql_exec.specs.Effects.{change_of}
use Rattle.write_set.specs.declared.change.Change.{Change}
use Rattle.write_set.specs.declared.change.Change.TheVariants.{Put}
use Rattle.write_set.specs.Overlay.{Table}

same_image : (a b : RowImage) → Put a ≡ Put b → a ≡ b
same_image a b e = cc

-- one that puts a row that fits
pub put_is_sound : (tables : Tables) (base : Table) (row : RowId) (image : RowImage) → Fits tables (row, image) → IsSoundChange tables base (change_of base row (Put image))
put_is_sound tables base row image fits = record {
  before = refl;
  fits = λ other put. subst (λ (i : RowImage). Fits tables (row, i)) (same_image image other put) fits;
}

-- and one that puts nothing
pub others_are_sound : (tables : Tables) (base : Table) (row : RowId) (change : Change) → ¬ (IsPut change) → IsSoundChange tables base (change_of base row change)
others_are_sound tables base row change none = record { before = refl; fits = λ image put. absurd (none (subst IsPut (sym put) tt)) }
