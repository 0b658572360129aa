use Rattle.std.proofs.Common.{ap}
use Rattle.std.specs.Option.{option_map}
use Rattle.version_store.proofs.Listed.{listed_there, listed_not}
use Rattle.version_store.proofs.listing.rows_at.Goals as goal
use Rattle.version_store.proofs.listing.rows_at.Goals.{in-Some+in_ok-push, in_default}

pub loop-pair-preserved : goal.loop-pair-preserved
loop-pair-preserved c = elim c.match-image_at.branch [
  | in-Some+in_ok-push w ↦
      listed_there _ _ c.args.epoch c.args.pairs.now c.loop-pair.pair-index c.pair-item.result c.loop-pair-test.true c.pair-item.is c.loop-pair.rows.items _
      (c.pair-item.result.0, w.in-Some.image) c.loop-pair.invariant (ap (option_map (λ i. (c.pair-item.result.0.now, i))) w.in-Some.ensures)
      (cc (w.rows-is, w.in_ok-push.ensures.items))
  | in_default w ↦
      listed_not _ _ c.args.epoch c.args.pairs.now c.loop-pair.pair-index c.pair-item.result c.loop-pair-test.true c.pair-item.is c.loop-pair.rows.items _
      c.loop-pair.invariant (ap (option_map (λ i. (c.pair-item.result.0.now, i))) w.in_default.ensures)
      (cc (w.rows-is))
]
