use Rattle.std.proofs.Common.{arith}
use Rattle.claim_rule.proofs.Stepping.{draws_claim}
use Rattle.claim_rule.proofs.table.ClaimTable.draw_claim.Goals as goal

pub fetch_add-found-requires : goal.fetch_add-found-requires
fetch_add-found-requires c =
    let t = c.args.self.now.table.shared in
    let s = c.args.seat.now.seat in
    (c.requires.seat.same, omega arith, draws_claim t.key t.table_id.slots s.id s.me c.requires.seat.opened c.requires.seat.some c.requires.unspent)
