use Rattle.std.proofs.Common.{◌≡◌, ◌++◌, take, string_bytes}
use Rattle.geo_world.specs.Lines as lines
use Rattle.geo_world.proofs.printing.rows.print_rows.Given as goal

abbrev pub invariant-loop-place : goal.invariant-loop-place
invariant-loop-place l = string_bytes l.out ≡ string_bytes l.initial.out ++ lines.rows_lines (take l.place l.table.rows)
