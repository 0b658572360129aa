-- A look-up in a view, by what the own writes have of the row.
use Rattle.std.proofs.Common.{◌≡◌, Option, None, List, sym, ap, ◌∙◌}
use Rattle.geo_base.specs.declared.row_id.RowId.{RowId}
use Rattle.geo_base.specs.declared.row_image.RowImage.{RowImage}
use Rattle.write_set.specs.declared.change.Change.{Change}
use Rattle.write_set.specs.laws.Tables.{image_laid_over}
use Rattle.write_set.specs.Net.{change_in}
use Rattle.write_set.specs.Overlay.{Table, image_in, overlay}
use Rattle.write_set.specs.Sets.{ChangeOfRow, Rises}
use Rattle.write_set.specs.Snapshot.{image_over}

pub seen_image : (base : Table) (own : List ChangeOfRow) → Rises base → Rises own → (row : RowId) (write : Option Change) → write ≡ change_in own row →
    image_over write (image_in base row) ≡ image_in (overlay base own) row
seen_image base own base_rises own_rises row write is =
    ap (λ w. image_over w (image_in base row)) is ∙ sym (image_laid_over base own row base_rises own_rises)

-- no image, where a row is gone
abbrev pub no_image : Option RowImage
no_image = None
