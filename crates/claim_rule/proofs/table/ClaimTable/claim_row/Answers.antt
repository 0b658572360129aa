use Rattle.std.proofs.Common.{◌<◌, arith}
use Rattle.claim_rule.proofs.Stepping.{claims_row}
use Rattle.claim_rule.proofs.Rows.{pair_within}
use Rattle.claim_rule.proofs.table.ClaimTable.claim_row.Goals as goal

pub fetch_max-requires : goal.fetch_max-requires
fetch_max-requires c =
    let t = c.args.self.now.table.shared in
    let s = c.args.seat.now.seat in
    let within = pair_within c.args.self.now c.args.seat.now c.args.row c.args.word c.requires.seat c.requires.planned in
    let row : c.args.row < t.key.rows = omega arith in
    (c.requires.seat.same, omega arith, claims_row t.key t.table_id.slots s.id s.me c.requires.seat.opened c.requires.seat.some c.args.row c.args.word row c.requires.planned)
