-- the rows so far, and behind them those that are left, are all
use Rattle.std.proofs.Common.{◌≡◌, ◌++◌}
use Rattle.std.specs.Vec.Iter.{into_iter_items}
use Rattle.row_source.specs.Lists.{table_of}
use Rattle.rows_kit.proofs.laying.listed.Given as goal

abbrev pub invariant-loop-row : goal.invariant-loop-row
invariant-loop-row l = table_of l.rows.items ++ into_iter_items l.row-iterator ≡ into_iter_items l.initial.row-iterator
