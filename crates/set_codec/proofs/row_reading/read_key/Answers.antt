use Rattle.std.proofs.Common.{arith}
use Rattle.std.proofs.Common.{rules}
use Rattle.set_codec.proofs.Keys.{key_is_whole}
use Rattle.set_codec.proofs.row_reading.read_key.Goals as goal

pub unwrap-requires : goal.unwrap-requires
unwrap-requires c =
    let whole = key_is_whole c.args.table.now c.args.bytes.now c.args.at c.in_ok-cells.next c.in_ok-cells.cells.items c.requires.rows (λ i. omega (arith, c.type_inv.bytes i)) c.in_ok-cells.ensures.exact in
    search (rules, whole)
