use Rattle.std.proofs.Common.{arith}
use Rattle.set_codec.specs.laws.Changes.{changes_are_set}
use Rattle.set_codec.proofs.batch_reading.read_candidate.Goals as goal

pub from_changes-set-requires : goal.from_changes-set-requires
from_changes-set-requires c =
    changes_are_set c.args.format c.args.schema.now c.in_ok-rows.rows c.args.bytes.now c.in_ok-rows.from c.in_ok-changes.next c.in_ok-changes.changes.items c.count-tables.ensures.schema (λ i. omega (arith, c.type_inv.bytes i)) c.in_ok-rows.ensures.few c.in_ok-changes.ensures.exact
