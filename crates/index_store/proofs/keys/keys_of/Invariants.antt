use Rattle.std.proofs.Common.{◌≡◌, map, take}
use Rattle.index_store.proofs.keys.keys_of.Given as goal

-- the keys of the pairs so far are there
abbrev pub invariant-loop-entry : goal.invariant-loop-entry
invariant-loop-entry l = map (λ k. k.now) l.keys.items ≡ map (λ e. e.0.now.key) (take l.entry-index l.entries)
