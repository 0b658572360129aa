use Rattle.std.proofs.Common.{◌-◌}
use Rattle.page_map.specs.inner.Cuts.{IsBorderedIn}
use Rattle.page_map.specs.inner.Chunks.{shared_entries}
use Rattle.page_map.proofs.finding.border_chunk.Given as goal

abbrev pub invariant-loop-low : goal.invariant-loop-low
invariant-loop-low g l = IsBorderedIn (g.B.Border.before l.border) (shared_entries g.C.Chunk.entries) l.shelf.chunks.items l.low l.high

abbrev pub decreases-loop-low : goal.decreases-loop-low
decreases-loop-low g l = l.high - l.low
