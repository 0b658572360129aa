use Rattle.std.proofs.Common.{ℕ, ◌<◌}
use Rattle.merge_round.specs.inner.Gathering.{HasVerdict}
use Rattle.merge_round.proofs.gathering.first_unjudged.Given as goal

-- there is a verdict in each place so far
abbrev pub invariant-loop-number : goal.invariant-loop-number
invariant-loop-number l = (lower : ℕ) → lower < l.number → HasVerdict l.verdicts lower
