use Rattle.std.proofs.Common.{◌≡◌, map, Bor, length, sym, ◌∙◌}
use Rattle.geo_base.specs.declared.row_image.RowImage.{RowImage}
use Rattle.row_source.specs.Sources.{images, of_table}
use Rattle.geo_report.proofs.Listed.{all_found, table_written}
use Rattle.geo_report.proofs.showing.print_table.Goals as goal

pub returns : goal.returns
returns g c =
    let seen = λ (image : Bor RowImage). image.now in
    let rows = g.R.RowSource.rows c.args.source.now in
    let found : map seen c.as_slice.result.now ≡ images (of_table c.args.number rows) =
    rw c.as_slice.ensures.value (c.in_ok-rows.ensures.images ∙ all_found c.args.all.now c.args.number rows c.requires.low c.requires.high)
    in
    let count : c.len.result ≡ length c.as_slice.result.now = c.len.ensures ∙ sym c.as_slice.ensures.len in
    table_written seen c.as_slice.result.now _ _ _ _ _ _ _ _ c.len.result found count c.in_ok-print_table_name.ensures c.in_ok-print_number.ensures c.in_ok-push_str.ensures.bytes
    c.print_images.ensures
