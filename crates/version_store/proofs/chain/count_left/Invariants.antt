use Rattle.std.proofs.Common.{◌≡◌, ◌+◌, length, drop}
use Rattle.version_store.specs.Chains.{kept_at}
use Rattle.version_store.proofs.chain.count_left.Given as goal

-- those so far, with what is left of the others, are as many as are left
abbrev pub invariant-loop-version : goal.invariant-loop-version
invariant-loop-version l =
    (l.newer ≡ l.version-index) × (l.newer + length (kept_at l.horizon (drop l.version-index l.versions)) ≡ length (kept_at l.horizon l.versions))
