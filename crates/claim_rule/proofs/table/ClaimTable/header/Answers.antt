use Rattle.std.proofs.Common.{◌<◌, arith}
use Rattle.claim_rule.proofs.Stepping.{reads_header}
use Rattle.claim_rule.proofs.table.ClaimTable.header.Goals as goal

pub load-requires : goal.load-requires
load-requires c =
    let t = c.args.self.now.table.shared in
    let s = c.args.seat.now.seat in
    let row : c.args.row < t.key.rows = omega arith in
    (c.requires.seat.same, omega arith, reads_header t.key t.table_id.slots s.id s.me c.requires.seat.opened c.requires.seat.some c.args.row row c.requires.stable)
