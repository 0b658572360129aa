use Rattle.std.proofs.Common.{◌≡◌, take}
use Rattle.region_core.proofs.Insides.{holding}
use Rattle.region_core.proofs.restarting.hold_all.Given as goal

-- the batches before this one are held
abbrev pub invariant-loop-batch : goal.invariant-loop-batch
invariant-loop-batch l = l.inbox ≡ holding l.fn.inbox.regions (take l.batch-index l.log)
