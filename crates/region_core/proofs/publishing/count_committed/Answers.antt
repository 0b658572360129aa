use Rattle.std.proofs.Common.{◌≡◌, ◌+◌, ℕ, not, count_by, sym, ap, ◌∙◌, arith}
use Rattle.std.proofs.lemmas.List.{take_all}
use Rattle.write_set.specs.Merge.{is_committed}
use Rattle.region_core.proofs.Counted.{pass_or_not}
use Rattle.region_core.proofs.publishing.count_committed.Goals as goal

pub returns-clause-count : goal.returns-clause-count
returns-clause-count c = c.loop-outcome.invariant ∙ ap (count_by is_committed) (take_all c.loop-outcome.outcome-index c.args.outcomes.now (omega (arith, c.loop-outcome-test.false)))

pub returns-clause-others : goal.returns-clause-others
returns-clause-others c =
    pass_or_not is_committed c.args.outcomes.now ∙ ap (λ (n : ℕ). n + count_by (λ o. not (is_committed o)) c.args.outcomes.now) (sym (returns-clause-count c))
