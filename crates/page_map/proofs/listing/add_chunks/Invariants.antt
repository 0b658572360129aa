use Rattle.std.proofs.Common.{◌++◌, map, take, drop}
use Rattle.page_map.specs.inner.Cuts.{IsListing}
use Rattle.page_map.specs.inner.Chunks.{shared_entries, shelf_entries}
use Rattle.page_map.proofs.listing.add_chunks.Given as goal

abbrev pub invariant-loop-chunk : goal.invariant-loop-chunk
invariant-loop-chunk g l =
    IsListing (shared_entries g.C.Chunk.entries) l.shelf.chunks.items (map (λ pair. (pair.0.now, pair.1.now)) l.found.items) (map (λ pair. (pair.0.now, pair.1.now)) l.initial.found.items ++ take l.fn.count (drop l.fn.place (shelf_entries g.C.Chunk.entries l.shelf))) l.chunk l.skipped l.left
