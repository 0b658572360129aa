use Rattle.std.proofs.Common.{◌≡◌, map, take}
use Rattle.version_store.specs.Listing.{rows_at}
use Rattle.version_store.proofs.listing.rows_at.Given as goal

-- the rows so far are listed
abbrev pub invariant-loop-pair : goal.invariant-loop-pair
invariant-loop-pair l = map (λ p. (p.0.now, p.1.now)) l.rows.items ≡ rows_at l.epoch (map (λ p. (p.0.now, p.1.now)) (take l.pair-index l.pairs))
