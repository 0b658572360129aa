use Rattle.std.proofs.Common.{◌-◌}
use Rattle.page_map.specs.inner.Cuts.{IsSearching}
use Rattle.page_map.proofs.page.search.Given as goal

abbrev pub invariant-loop-low : goal.invariant-loop-low
invariant-loop-low g l = IsSearching g.K.Ord.cmp l.key l.page.entries.items l.low l.high

abbrev pub decreases-loop-low : goal.decreases-loop-low
decreases-loop-low g l = l.high - l.low
