use Rattle.std.proofs.Common.{rules, refl, ap, ◌∙◌}
use Rattle.snap_view.proofs.Listed.{entry_more, entry_none}
use Rattle.snap_view.proofs.naming.rows_within.Goals as goal
use Rattle.snap_view.proofs.naming.rows_within.Goals.{in-Some+in_ok-push, in_default}

pub loop-name-preserved : goal.loop-name-preserved
loop-name-preserved c = elim c.match-row_within.branch [
  | in-Some+in_ok-push w ↦
      entry_more (λ p. (p.0.now, p.1.now)) c.args.index.now c.args.range.now _ c.args.names.now c.loop-name.name-index c.name-item.result c.loop-name-test.true c.name-item.is
      c.loop-name.rows.items _ _ w.in-Some.image.now c.loop-name.invariant (search rules) (ap (λ v. v.items) w.rows-is ∙ w.in_ok-push.ensures.items) refl
  | in_default w ↦
      entry_none (λ p. (p.0.now, p.1.now)) c.args.index.now c.args.range.now _ c.args.names.now c.loop-name.name-index c.name-item.result c.loop-name-test.true c.name-item.is
      c.loop-name.rows.items _ c.loop-name.invariant (search rules) (ap (λ v. v.items) w.rows-is)
]
