use Rattle.std.proofs.Common.{◌≡◌, ◌++◌, map, take}
use Rattle.page_map.proofs.listing.add_pairs.Given as goal

-- the pairs so far were added
abbrev pub invariant-loop-pair : goal.invariant-loop-pair
invariant-loop-pair g l =
    map (λ pair. (pair.0.now, pair.1.now)) l.found.items ≡ map (λ pair. (pair.0.now, pair.1.now)) l.initial.found.items ++ take l.pair-index l.pairs
