use Rattle.std.proofs.Common.{map}
use Rattle.region_core.proofs.OwnOutcomes.{AreFound}
use Rattle.region_core.proofs.publishing.own_outcomes.Given as goal

-- the outcomes in the batches so far are found
abbrev pub invariant-loop-batch : goal.invariant-loop-batch
invariant-loop-batch l = AreFound l.no (map (λ b. b.now) l.batches) l.outcomes l.batch-index l.place l.own.items
