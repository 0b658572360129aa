use Rattle.std.proofs.lemmas.Grind.{common_steps}
use Rattle.std.proofs.Common.{arith}
use Rattle.set_codec.proofs.Readable.{more_have}
use Rattle.set_codec.proofs.writing.write_changes.Goals as goal

pub loop-row-preserved : goal.loop-row-preserved
loop-row-preserved c = record {
  so_far = grind (arith, common_steps);
  readable = more_have c.args.changes.now c.loop-row.row-index c.loop-row-item.result c.loop-row-test.true c.loop-row-item.is c.loop-row.invariant.readable c.in_ok-write_change.ensures.readable;
}
