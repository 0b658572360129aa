use Rattle.std.proofs.Common.{◌*◌, ◌≤◌, length, take}
use Rattle.write_set.specs.Journal.{candidates_of}
use Rattle.merge_round.specs.declared.limits.TheConstants.{MAX_BATCH_ROWS}
use Rattle.merge_round.specs.inner.Entries.{GrowsBy}
use Rattle.merge_round.proofs.numbering.number.Given as goal

-- the candidates of the batches so far are numbered
abbrev pub invariant-loop-batch : goal.invariant-loop-batch
invariant-loop-batch l =
    GrowsBy (candidates_of (take l.batch-index l.batches)) l.initial.numbering l.numbering
    × (length l.numbering.rows.keys ≤ l.batch-index * MAX_BATCH_ROWS)
