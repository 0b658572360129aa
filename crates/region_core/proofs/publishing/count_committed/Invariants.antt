use Rattle.std.proofs.Common.{◌≡◌, count_by, take}
use Rattle.write_set.specs.Merge.{is_committed}
use Rattle.region_core.proofs.publishing.count_committed.Given as goal

-- those so far are counted
abbrev pub invariant-loop-outcome : goal.invariant-loop-outcome
invariant-loop-outcome l = l.count ≡ count_by is_committed (take l.outcome-index l.outcomes)
