use Rattle.std.proofs.Common.{◌≡◌, ◌++◌, length, string_bytes, subst, arith}
use Rattle.std.specs.List.{flat_map, range_with_len}
use Rattle.geo_report.specs.TableLines.{lines_of_number, table_lines_of}
use Rattle.geo_report.proofs.Listed.{tables_written}
use Rattle.geo_report.proofs.showing.print_tables.Goals as goal

pub loop-number-preserved : goal.loop-number-preserved
loop-number-preserved g c =
    tables_written (lines_of_number c.args.schema.now (g.R.RowSource.rows c.args.source.now)) _ _ _ c.loop-number.number c.loop-number.invariant c.in_ok-print_table.ensures

pub returns : goal.returns
unfolding table_lines_of
returns g c =
    let lines = lines_of_number c.args.schema.now (g.R.RowSource.rows c.args.source.now) in
    let last : c.loop-number.number ≡ length c.args.schema.now.shown = omega (arith, c.count-number-end.ensures.count) in
    subst (λ number. string_bytes c.loop-number.out ≡ string_bytes c.args.out.now ++ flat_map lines (range_with_len 0 number)) last c.loop-number.invariant
