use Rattle.std.proofs.Common.{◌<◌, ◌++◌, length, map, sym, ap, ◌∙◌, arith}
use Rattle.write_set.proofs.Gathering.{among_in, among_out}
use Rattle.write_set.proofs.committing.changes_among.Goals as goal
use Rattle.write_set.proofs.committing.changes_among.Goals.{then-is_committed+in_ok-add_each, else-is_committed}

pub loop-place-preserved : goal.loop-place-preserved
loop-place-preserved c =
    let has : c.loop-place.place < length c.args.outcomes.now = omega (arith, c.requires, c.loop-place-test.true) in
    elim c.if-is_committed.branch [
      | then-is_committed+in_ok-add_each w ↦
          among_in _ c.args.candidates.now c.args.outcomes.now c.loop-place.place c.index-candidates-place.result c.index-outcomes-place.result
          c.loop-place-test.true has c.index-candidates-place.is c.index-outcomes-place.is (sym c.is_committed.ensures ∙ w.if-is_committed.true) _
          (ap (λ v. map (λ c. c.now) v.items) w.changes-is ∙ w.in_ok-add_each.ensures ∙ λ i. c.loop-place.invariant i ++ w.changes.ensures.value i)
      | else-is_committed w ↦
          among_out _ c.args.candidates.now c.args.outcomes.now c.loop-place.place c.index-candidates-place.result c.index-outcomes-place.result
          c.loop-place-test.true has c.index-candidates-place.is c.index-outcomes-place.is (sym c.is_committed.ensures ∙ w.if-is_committed.false) _
          (ap (λ v. map (λ c. c.now) v.items) w.changes-is ∙ c.loop-place.invariant)
    ]
