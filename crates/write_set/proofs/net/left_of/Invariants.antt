use Rattle.std.proofs.Common.{◌≡◌}
use Rattle.std.specs.Vec.Iter.{into_iter_items}
use Rattle.write_set.specs.inner.Nets.{left_with_all}
use Rattle.write_set.proofs.net.left_of.Given as goal

-- the changes so far are noted: the others leave of what is noted what all leave of nothing
abbrev pub invariant-loop-change : goal.invariant-loop-change
invariant-loop-change l = left_with_all l.set l.left.entries (into_iter_items l.change-iterator) ≡ left_with_all l.set l.initial.left.entries (into_iter_items l.initial.change-iterator)
