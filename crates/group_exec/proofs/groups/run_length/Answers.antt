use Rattle.std.proofs.Common.{arith, ap, sym, ◌∙◌}
use Rattle.std.specs.Ordering.{is_ne}
use Rattle.group_exec.proofs.Running.{all_of_it, ends_at, goes_on}
use Rattle.group_exec.proofs.groups.run_length.Goals as goal

pub returns-then-is_ne-clause-exact : goal.returns-then-is_ne-clause-exact
returns-then-is_ne-clause-exact c =
    ends_at c.args.sorts.now c.args.rows.now c.loop-place.place c.loop-place.invariant.0 c.loop-place.invariant.2 c.index-rows-place.result c.index-rows-place-in-loop-place.result
    c.loop-place-test.true c.index-rows-place.is c.index-rows-place-in-loop-place.is (ap is_ne (sym c.by_all.ensures) ∙ sym c.is_ne.ensures ∙ c.if-is_ne.true)

pub loop-place-preserved : goal.loop-place-preserved
loop-place-preserved c = (
  omega arith,
  omega arith,
  goes_on c.args.sorts.now c.args.rows.now c.loop-place.place c.loop-place.invariant.0 c.loop-place.invariant.2 c.index-rows-place.result c.index-rows-place-in-loop-place.result
      c.loop-place-test.true c.index-rows-place.is c.index-rows-place-in-loop-place.is (ap is_ne (sym c.by_all.ensures) ∙ sym c.is_ne.ensures ∙ c.if-is_ne.false),
)

pub returns-clause-exact : goal.returns-clause-exact
returns-clause-exact c =
    all_of_it c.args.sorts.now c.args.rows.now c.loop-place.place c.loop-place.invariant.0 c.loop-place.invariant.2 (omega arith)
