-- what was made so far, and behind it what is made of the rows that are left, is the whole
use Rattle.std.proofs.Common.{◌≡◌, [], drop, map}
use Rattle.group_exec.specs.Groups.{with_arguments}
use Rattle.group_exec.specs.inner.Made.{seen_row}
use Rattle.row_source.specs.Matches.{pair_cells}
use Rattle.sql_bind.specs.Steps.{each_behind}
use Rattle.group_exec.proofs.arguments.all_with_arguments.Given as goal

abbrev pub invariant-loop-pair : goal.invariant-loop-pair
invariant-loop-pair l =
    each_behind (λ _. with_arguments l.items) (map seen_row l.rows.items) (map pair_cells (drop l.pair-index l.pairs)) ≡ each_behind (λ _. with_arguments l.items) [] (map pair_cells l.pairs)
