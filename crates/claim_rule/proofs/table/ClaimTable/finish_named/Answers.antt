use Rattle.std.proofs.Common.{arith}
use Rattle.claim_rule.proofs.Stepping.{finishes}
use Rattle.claim_rule.proofs.table.ClaimTable.finish_named.Goals as goal

pub fetch_add-requires : goal.fetch_add-requires
fetch_add-requires g c =
    let t = c.args.self.now.table.shared in
    let s = c.args.seat.now.seat in
    (c.requires.seat.same, omega arith, finishes t.key t.table_id.slots s.id s.me c.requires.seat.opened c.requires.seat.some g.Q.StepNumber.number c.requires.claimed)
