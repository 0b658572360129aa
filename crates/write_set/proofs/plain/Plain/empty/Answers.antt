use Rattle.std.specs.List.Sorted.{IsStrictlySortedBy}
use Rattle.write_set.proofs.plain.Plain.empty.Goals as goal

-- there are regions, and no entries rise
pub invariant_of-result : goal.invariant_of-result
unfolding IsStrictlySortedBy
invariant_of-result c = rw (c.new.ensures.items, c.new-2.ensures.items) (c.requires.some, tt, tt)
