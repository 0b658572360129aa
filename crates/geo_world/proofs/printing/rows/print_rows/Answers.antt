use Rattle.std.proofs.Common.{sym, ◌≡◌, ◌++◌, string_bytes}
use Rattle.std.specs.Prelude.{Some}
use Rattle.std.specs.List.{slice_get}
use Rattle.geo_base.specs.Texts.{row_text}
use Rattle.geo_world.proofs.LineLemmas.{rows-written}
use Rattle.geo_world.proofs.printing.rows.print_rows.Goals as goal

pub loop-place-preserved : goal.loop-place-preserved
loop-place-preserved c =
    let here : slice_get c.args.table.now.rows c.loop-place.place ≡ Some (c.in-Some.field-0-0.now, c.in-Some.image.now) = sym c.in-Some.ensures in
    let row : string_bytes c.print_row.new.out ≡ string_bytes c.loop-place.out ++ row_text c.cells.result.now = c.in_ok-print_row.ensures in
    rows-written _ _ _ _ c.args.table.now.rows c.loop-place.place (c.in-Some.field-0-0.now, c.in-Some.image.now) here
    c.loop-place.invariant (rw c.cells.ensures.value at row) c.in_ok-writeln.ensures.bytes
