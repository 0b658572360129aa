use Rattle.std.proofs.Common.{◌<◌, ℕ, length, map, sym, ap, ◌∙◌, subst}
use Rattle.std.proofs.lemmas.List.{length-map}
use Rattle.region_core.proofs.OwnOutcomes.{there, found_own, found_other, item_at}
use Rattle.region_core.proofs.publishing.own_outcomes.Goals as goal
use Rattle.region_core.proofs.publishing.own_outcomes.Goals.{then-batch-no+in_ok-add_copies, else-batch-no}

pub slice_bounds-add_copies-end : goal.slice_bounds-add_copies-end
slice_bounds-add_copies-end c =
    there c.args.no (map (λ b. b.now) c.args.batches.now) c.args.outcomes.now c.loop-batch.batch-index c.loop-batch.place c.loop-batch.own.items c.loop-batch.invariant
    (subst (λ (n : ℕ). c.loop-batch.batch-index < n) (sym (length-map c.args.batches.now (λ b. b.now))) c.loop-batch-test.true)
    c.batch-item.result.now (item_at (λ b. b.now) c.args.batches.now c.loop-batch.batch-index c.batch-item.result c.loop-batch-test.true c.batch-item.is)
    (length c.items-count.result.now) (ap length c.items-count.ensures)

pub loop-batch-preserved : goal.loop-batch-preserved
loop-batch-preserved c =
    let within = subst (λ (n : ℕ). c.loop-batch.batch-index < n) (sym (length-map c.args.batches.now (λ b. b.now))) c.loop-batch-test.true in
    let item = item_at (λ b. b.now) c.args.batches.now c.loop-batch.batch-index c.batch-item.result c.loop-batch-test.true c.batch-item.is in
    elim c.if-batch-no.branch [
      | then-batch-no+in_ok-add_copies w ↦
          found_own c.args.no (map (λ b. b.now) c.args.batches.now) c.args.outcomes.now c.loop-batch.batch-index c.loop-batch.place c.loop-batch.own.items c.loop-batch.invariant within
          c.batch-item.result.now item (length c.items-count.result.now) (ap length c.items-count.ensures) w.if-batch-no.true _ (ap (λ v. v.items) w.own-is ∙ w.in_ok-add_copies.ensures)
      | else-batch-no w ↦
          found_other c.args.no (map (λ b. b.now) c.args.batches.now) c.args.outcomes.now c.loop-batch.batch-index c.loop-batch.place c.loop-batch.own.items c.loop-batch.invariant within
          c.batch-item.result.now item (length c.items-count.result.now) (ap length c.items-count.ensures) w.if-batch-no.false _ (ap (λ v. v.items) w.own-is)
    ]
