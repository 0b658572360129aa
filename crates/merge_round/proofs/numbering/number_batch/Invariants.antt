use Rattle.std.proofs.Common.{◌+◌, ◌*◌, ◌≤◌, length, take}
use Rattle.geo_base.specs.declared.limits.TheConstants.{MAX_SET_ROWS}
use Rattle.write_set.specs.Journal.{placed_from}
use Rattle.merge_round.specs.inner.Entries.{GrowsBy}
use Rattle.merge_round.proofs.numbering.number_batch.Given as goal

-- the candidates so far are numbered
abbrev pub invariant-loop-place : goal.invariant-loop-place
invariant-loop-place l =
    GrowsBy (placed_from l.batch.region 0 (take l.place l.batch.items)) l.fn.numbering l.numbering
    × (length l.numbering.rows.keys ≤ length l.fn.numbering.rows.keys + l.place * MAX_SET_ROWS)
