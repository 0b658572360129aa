use Rattle.group_exec.specs.laws.Sorting.{is_sorted, is_stable, only_sorted, permuted}
use Rattle.group_exec.proofs.laws.ordered_is_the_stable_sort.Goals as goal

pub returns-clause-permutation : goal.returns-clause-permutation
returns-clause-permutation c = permuted

pub returns-clause-sorted : goal.returns-clause-sorted
returns-clause-sorted c = is_sorted

pub returns-clause-stable : goal.returns-clause-stable
returns-clause-stable c = is_stable

pub returns-clause-only : goal.returns-clause-only
returns-clause-only c = only_sorted
