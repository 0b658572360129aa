use Rattle.std.proofs.Common.{◌≡◌, filter, nat_lt, take}
use Rattle.index_store.proofs.lost_pairs.later_losses.Given as goal

-- the later ones so far are copied
abbrev pub invariant-loop-loss : goal.invariant-loop-loss
invariant-loop-loss l = l.later.items ≡ filter (λ loss. nat_lt l.horizon loss.epoch) (take l.loss-index l.losses)
