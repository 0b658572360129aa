use Rattle.std.proofs.Common.{arith}
use Rattle.std.proofs.lemmas.Grind.{common_steps}
use Rattle.write_set.proofs.Lists.{placed_from_more}
use Rattle.write_set.proofs.entrant.enter.Goals as goal

pub loop-place-preserved : goal.loop-place-preserved
loop-place-preserved c =
    let items = c.items-candidate-items.result.now in
    let more = placed_from_more c.args.batch.now.region items c.loop-place.place c.candidate-item.result c.loop-place-test.true in
    grind (arith, common_steps, more)
