use Rattle.std.proofs.Common.{arith}
use Rattle.claim_rule.proofs.Stepping.{draws_judge}
use Rattle.claim_rule.proofs.table.ClaimTable.draw_judge.Goals as goal

pub fetch_add-found-requires : goal.fetch_add-found-requires
fetch_add-found-requires c =
    let t = c.args.self.now.table.shared in
    let s = c.args.seat.now.seat in
    (c.requires.seat.same, omega arith, draws_judge t.key t.table_id.slots s.id s.me c.requires.seat.opened c.requires.seat.some c.requires.stable c.requires.unspent)
