use Rattle.std.proofs.Common.{ap, sym, ◌∙◌, ◌++◌, ◌∷◌, [], List, ℕ, arith}
use Rattle.merge_round.proofs.Growing.{next_candidate}
use Rattle.merge_round.proofs.numbering.number_batch.Goals as goal

pub loop-place-preserved : goal.loop-place-preserved
loop-place-preserved c = (
  next_candidate c.args.batch.now.region c.args.batch.now.items c.loop-place.place c.candidate-item.result c.args.numbering.now c.loop-place.numbering _ c.in_ok-rows.rows.items
      c.loop-place.invariant.0
      (rw (sym c.items-candidate-items.ensures) c.loop-place-test.true)
      (rw (sym c.items-candidate-items.ensures) c.candidate-item.is)
      (rw (sym c.changes.ensures.value) c.in_ok-rows.ensures.numbered)
      (c.in_ok-push.ensures.items ∙ ap (λ (l : List ℕ). c.loop-place.numbering.entries.items ++ record { region = c.args.batch.now.region; csn = c.loop-place.place; start = c.candidate-item.result.start; rows = l } ∷ []) c.new.ensures),
  (let more = c.in_ok-rows.ensures.room in let before = c.loop-place.invariant.1 in omega arith),
)
