use Rattle.std.proofs.Common.{◌-◌, length}
use Rattle.page_map.specs.inner.Cuts.{IsWalking}
use Rattle.page_map.specs.inner.Chunks.{shared_entries}
use Rattle.page_map.proofs.finding.find_place.Given as goal

abbrev pub invariant-loop-count : goal.invariant-loop-count
invariant-loop-count g l = IsWalking (shared_entries g.C.Chunk.entries) l.shelf.chunks.items l.fn.place l.chunk l.rest l.count

abbrev pub decreases-loop-count : goal.decreases-loop-count
decreases-loop-count g l = length l.shelf.chunks.items - l.chunk
