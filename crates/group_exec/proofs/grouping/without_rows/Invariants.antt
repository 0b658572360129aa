-- the lines so far, and behind them those that are left, are all lines
use Rattle.std.proofs.Common.{◌≡◌, ◌++◌, map}
use Rattle.std.specs.Vec.Iter.{into_iter_items}
use Rattle.group_exec.proofs.grouping.without_rows.Given as goal

abbrev pub invariant-loop-line : goal.invariant-loop-line
invariant-loop-line l = (l.found.items ++ map (λ m. m.cells) (into_iter_items l.line-iterator)) ≡ map (λ m. m.cells) l.fn.lines.items
