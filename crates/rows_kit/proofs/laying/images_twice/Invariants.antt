-- both have the same so far
use Rattle.std.proofs.Common.{◌≡◌}
use Rattle.rows_kit.proofs.laying.images_twice.Given as goal

abbrev pub invariant-loop-at : goal.invariant-loop-at
invariant-loop-at l = l.base.entries ≡ l.same.entries
