use Rattle.std.proofs.Common.{◌≡◌, ℕ, subst, arith}
use mathlib.Core.Option.{none}
use Rattle.atomic_table.specs.Table.{step, Allows}
use Rattle.claim_rule.specs.Rule.{Holds}
use Rattle.claim_rule.specs.inner.Steps.{SeesDone}
use Rattle.claim_rule.proofs.Stepping.{sees_done}
use Rattle.claim_rule.proofs.table.ClaimTable.done_named.Goals as goal

pub load-seen-requires : goal.load-seen-requires
load-seen-requires g c =
    let t = c.args.self.now.table.shared in
    let s = c.args.seat.now.seat in
    let workers : t.key.workers ≡ g.Q.StepNumber.number = omega arith in
    (c.requires.seat.same, omega arith, subst (λ (n : ℕ). Allows (Holds t.key) t.table_id.slots s.id s.me 1 (λ n. n) (SeesDone n (step t.table_id.slots 1 0 0 none) s.me)) workers (sees_done t.key t.table_id.slots s.id s.me c.requires.seat.opened c.requires.seat.some))
