-- what was made so far, and behind it what is made of the rows that are left, is the whole
use Rattle.std.proofs.Common.{◌≡◌, [], drop, map}
use Rattle.group_exec.specs.Results.{row_line}
use Rattle.group_exec.specs.inner.Made.{seen_line}
use Rattle.row_source.specs.Matches.{pair_cells}
use Rattle.sql_bind.specs.Steps.{each_behind}
use Rattle.group_exec.proofs.items.row_lines.Given as goal

abbrev pub invariant-loop-pair : goal.invariant-loop-pair
invariant-loop-pair l =
    each_behind (λ _. row_line l.items) (map seen_line l.lines.items) (map pair_cells (drop l.pair-index l.pairs)) ≡ each_behind (λ _. row_line l.items) [] (map pair_cells l.pairs)
