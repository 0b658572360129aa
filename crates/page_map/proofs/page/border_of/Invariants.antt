use Rattle.std.proofs.Common.{◌-◌}
use Rattle.page_map.specs.inner.Cuts.{IsBordered}
use Rattle.page_map.proofs.page.border_of.Given as goal

abbrev pub invariant-loop-low : goal.invariant-loop-low
invariant-loop-low g l = IsBordered (g.B.Border.before l.border) l.page.entries.items l.low l.high

abbrev pub decreases-loop-low : goal.decreases-loop-low
decreases-loop-low g l = l.high - l.low
