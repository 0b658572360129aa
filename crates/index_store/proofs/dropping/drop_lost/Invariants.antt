use Rattle.std.proofs.Common.{◌≡◌, drop}
use Rattle.index_store.specs.inner.Dropping.{left_at}
use Rattle.index_store.proofs.dropping.drop_lost.Given as goal

-- what is dropped from here on comes to the whole
abbrev pub invariant-loop-loss : goal.invariant-loop-loss
invariant-loop-loss l = left_at l.horizon (drop l.loss-index l.losses) l.entries ≡ left_at l.horizon l.losses l.initial.entries
