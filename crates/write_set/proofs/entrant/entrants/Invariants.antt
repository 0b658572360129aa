use Rattle.std.proofs.Common.{◌≡◌, map, take}
use Rattle.write_set.specs.inner.Entrants.{placed}
use Rattle.write_set.specs.Journal.{candidates_of}
use Rattle.write_set.proofs.entrant.entrants.Given as goal

-- the candidates of the batches so far are entered
abbrev pub invariant-loop-batch : goal.invariant-loop-batch
invariant-loop-batch l = map placed l.all.items ≡ candidates_of (take l.batch-index l.batches)
