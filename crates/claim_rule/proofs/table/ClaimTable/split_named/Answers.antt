use Rattle.std.proofs.Common.{arith}
use Rattle.claim_rule.proofs.Stepping.{splits}
use Rattle.claim_rule.proofs.table.ClaimTable.split_named.Goals as goal

pub split_seat-requires : goal.split_seat-requires
split_seat-requires g c =
    let t = c.args.self.now.table.shared in
    let s = c.args.seat.now.seat in
    let gives = c.requires.shares in
    (c.requires.seat.same, omega arith, splits t.key s.id s.me.0 g.Q.StepNumber.number c.requires.seat.opened gives.some gives.less gives.claiming gives.judging)
