use Rattle.std.proofs.Common.{◌≡◌, ◌++◌, string_bytes}
use Rattle.std.specs.List.{flat_map, range_with_len}
use Rattle.geo_report.specs.TableLines.{lines_of_number}
use Rattle.geo_report.proofs.showing.print_tables.Given as goal

abbrev pub invariant-loop-number : goal.invariant-loop-number
invariant-loop-number g l = string_bytes l.out ≡ string_bytes l.initial.out ++ flat_map (lines_of_number l.schema (g.R.RowSource.rows l.source)) (range_with_len 0 l.number)
