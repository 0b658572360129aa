use Rattle.std.proofs.Common.{◌≡◌, map, take}
use Rattle.write_set.specs.inner.Gathering.{all_items}
use Rattle.write_set.proofs.committing.all_candidates.Given as goal

-- the candidates of the batches so far are added
abbrev pub invariant-loop-batch : goal.invariant-loop-batch
invariant-loop-batch l = map (λ c. c.now) l.all.items ≡ all_items (map (λ b. b.now) (take l.batch-index l.batches))
