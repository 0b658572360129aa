use Rattle.std.proofs.Common.{◌<◌, length, map, slice_index_or, sym, ap, subst, ◌∙◌}
use Rattle.std.specs.List.{All}
use Rattle.geo_base.specs.declared.cell.Cell.TheVariants as cell
use Rattle.geo_base.specs.Cells.{key_fault}
use Rattle.geo_schema.specs.Rows.{key_cells}
use Rattle.geo_schema.specs.laws.Fits.{fit_rows}
use Rattle.geo_schema.proofs.KeyOfRow.{places_within, key_is_faultless, answers}
use Rattle.geo_schema.proofs.row_rule.key_of_row.Goals as goal

pub copy_places-requires : goal.copy_places-requires
copy_places-requires c =
    subst (λ places. All (λ place. place < length c.args.cells.now) places) (sym c.items.ensures)
    (places_within c.args.table.now c.args.cells.now c.requires.rules (fit_rows c.args.table.now c.args.cells.now c.requires.fits))

pub unwrap-requires : goal.unwrap-requires
unfolding key_cells
unwrap-requires c =
    let table = c.args.table.now in
    let cells = c.args.cells.now in
    let copies = c.in_ok-copies.ensures ∙ ap (map (λ place. slice_index_or cells place cell.Null)) c.items.ensures in
    answers c.new.result _ (key_fault c.in_ok-copies.copies.items) c.new.ensures
    (ap key_fault copies ∙ key_is_faultless table cells c.requires.rules (fit_rows c.args.table.now c.args.cells.now c.requires.fits))
