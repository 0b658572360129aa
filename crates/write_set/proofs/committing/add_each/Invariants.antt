use Rattle.std.proofs.Common.{◌≡◌, ◌++◌, map, take}
use Rattle.write_set.proofs.committing.add_each.Given as goal

-- the items so far are added
abbrev pub invariant-loop-item : goal.invariant-loop-item
invariant-loop-item g l = map (λ x. x.now) l.all.items ≡ map (λ x. x.now) l.initial.all.items ++ take l.item-index l.items
