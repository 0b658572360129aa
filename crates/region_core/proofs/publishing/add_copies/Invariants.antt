use Rattle.std.proofs.Common.{◌≡◌, ◌++◌, take}
use Rattle.region_core.proofs.publishing.add_copies.Given as goal

-- the outcomes so far are added
abbrev pub invariant-loop-outcome : goal.invariant-loop-outcome
invariant-loop-outcome l = l.own.items ≡ l.initial.own.items ++ take l.outcome-index l.outcomes
