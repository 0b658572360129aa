use Rattle.claim_rule.specs.inner.Made.{IsSharing}
use Rattle.claim_rule.proofs.table.ClaimTable.share_out.Given as goal

abbrev pub invariant-loop-left : goal.invariant-loop-left
invariant-loop-left g l = IsSharing l.self l.first (g.P.ClaimPlan.plan) l.fn.workers l.left l.seats.items

abbrev pub decreases-loop-left : goal.decreases-loop-left
decreases-loop-left g l = l.left
