use Rattle.std.proofs.Common.{◌≡◌, take}
use Rattle.page_map.proofs.page.copy_pairs.Given as goal

-- the copies so far are the pairs so far
abbrev pub invariant-loop-pair : goal.invariant-loop-pair
invariant-loop-pair g l = l.copies.items ≡ take l.pair-index l.pairs
