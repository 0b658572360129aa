use Rattle.std.proofs.Common.{◌≡◌, map, take}
use Rattle.region_core.proofs.reading.copy_lent.Given as goal

-- the batches so far are copied
abbrev pub invariant-loop-batch : goal.invariant-loop-batch
invariant-loop-batch l = l.batches.items ≡ map (λ b. b.now) (take l.batch-index l.lent)
