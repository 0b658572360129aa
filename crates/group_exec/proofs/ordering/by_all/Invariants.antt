-- the columns so far tell the lines not apart
use Rattle.std.proofs.Common.{◌≡◌, drop}
use Rattle.group_exec.specs.Results.{by_all}
use Rattle.group_exec.specs.inner.Made.{seen_line}
use Rattle.group_exec.proofs.ordering.by_all.Given as goal

abbrev pub invariant-loop-sort : goal.invariant-loop-sort
invariant-loop-sort l = by_all (drop l.sort-index l.sorts) (seen_line l.a) (seen_line l.b) ≡ by_all l.sorts (seen_line l.a) (seen_line l.b)
