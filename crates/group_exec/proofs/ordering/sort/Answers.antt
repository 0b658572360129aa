use Rattle.std.proofs.Common.{ap, map, rules, sym, ◌∙◌}
use Rattle.std.specs.Ordering.{is_lt}
use Rattle.std.proofs.lemmas.Fn.{always_returns_same}
use Rattle.group_exec.specs.inner.Made.{seen_line}
use Rattle.group_exec.specs.laws.Sorting.{is_seen_less}
use Rattle.group_exec.proofs.Answers.{seen_weak, when_sorted, without_order}
use Rattle.group_exec.proofs.ordering.sort.Goals as goal

pub returns-then-is_empty : goal.returns-then-is_empty
returns-then-is_empty c = without_order c.args.sorts.now (map seen_line c.args.lines.now.items) (sym c.is_empty.ensures ∙ c.if-is_empty.true)

pub returns : goal.returns
returns c =
    let compares = always_returns_same _ _ _ (λ a r f called. (ap is_lt (search rules), search rules)) in
    when_sorted c.args.sorts.now c.args.lines.now.items c.sort_by.new.self.items c.sort_by.result _ c.sort_by.ensures.sorted
    (λ sorted. sorted (is_seen_less c.args.sorts.now seen_line) (seen_weak c.args.sorts.now) compares)
    (c.sort_by.ensures.stable (is_seen_less c.args.sorts.now seen_line) (seen_weak c.args.sorts.now) compares)
