use Rattle.std.proofs.Common.{◌≡◌, subst, arith}
use Rattle.std.specs.Prelude.{All}
use Rattle.claim_rule.specs.declared.view.ClaimView.{ClaimView}
use Rattle.claim_rule.specs.Views.{views_joined}
use Rattle.claim_rule.specs.Seats.{IsOnce}
use Rattle.claim_rule.proofs.Joins.{joined_apart, joined_plan}
use Rattle.claim_rule.proofs.Stepping.{joins}
use Rattle.claim_rule.proofs.table.ClaimTable.join.Goals as goal

pub join_seat-requires : goal.join_seat-requires
join_seat-requires c =
    let t = c.args.self.now.table.shared in
    let s = c.args.seat.now.seat in
    let o = c.args.other.seat in
    (c.requires.seat.same, c.requires.other.same, c.args.other.bare, omega arith, joins t.key s.id s.me.0 o.id o.me.0 c.requires.seat.opened c.requires.seat.some c.requires.other.some)

pub returns-clause-same_plan : goal.returns-clause-same_plan
returns-clause-same_plan c =
    let s = c.join_seat.new.seat in
    let v = c.args.seat.now.seat.me.0 in
    let w = c.args.other.seat.me.0 in
    let now : s.me.0 ≡ views_joined v w = cc in
    joined_plan v w s.me.0 now (subst (λ (u : ClaimView). All (λ p. p ≡ u.plan) u.joined) c.settle.ensures.view c.settle.ensures.joined)

pub returns-clause-apart : goal.returns-clause-apart
returns-clause-apart c =
    let s = c.join_seat.new.seat in
    let v = c.args.seat.now.seat.me.0 in
    let w = c.args.other.seat.me.0 in
    let now : s.me.0 ≡ views_joined v w = cc in
    joined_apart v w s.me.0 now (subst IsOnce c.settle.ensures.view c.settle.ensures.once)
