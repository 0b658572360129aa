use Rattle.std.proofs.Common.{◌≡◌, ◌<◌, ◌≤◌, ◌^◌, arith, length}
use Rattle.claim_rule.proofs.Stepping.{opens_as}
use Rattle.claim_rule.proofs.table.ClaimTable.open_named.Goals as goal

pub load-requires : goal.load-requires
load-requires g c =
    let t = c.args.self.now.table.shared in
    let s = c.args.seat.now.seat in
    let plan = g.Q.Opening.plan in
    let count = c.requires.plan.counted in
    let few : length plan < 2 ^ 32 = omega arith in
    let shares : g.Q.Opening.shares ≡ t.key.workers = omega arith in
    let some_share : 0 < g.Q.Opening.shares = (let manned = c.args.self.now.manned.0 in omega arith) in
    let most : t.key.workers ≤ 8 = (let manned = c.args.self.now.manned.1 in omega arith) in
    (c.requires.seat.same, omega arith, opens_as t.key t.table_id.slots s.id s.me plan g.Q.Opening.shares c.requires.seat.closed few some_share shares most)
