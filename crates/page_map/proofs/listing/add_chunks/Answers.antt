use Rattle.std.proofs.Common.{◌<◌, ◌++◌, length, map, take, drop, ap, sym, ◌∙◌, subst, arith}
use Rattle.std.specs.List.{All}
use Rattle.std.specs.Arc.{arc_value}
use Rattle.std.proofs.lemmas.List.Elements.{All-weaker}
use Rattle.page_map.specs.inner.Chunks.{shared_entries, IsChunk}
use Rattle.page_map.proofs.Listings.{listing_first, listing_next, listing_done, listing_over}
use Rattle.page_map.proofs.listing.add_chunks.Goals as goal

pub loop-chunk-init : goal.loop-chunk-init
loop-chunk-init g c =
    listing_first (shared_entries g.C.Chunk.entries) c.args.shelf.now.chunks.items c.find_place-first.result.0 c.find_place-first.result.1 c.args.place c.args.count (map (λ pair. (pair.0.now, pair.1.now)) c.args.found.now.items) c.find_place-first.ensures.rest c.find_place-first.ensures.place

pub list-requires-clause-within : goal.list-requires-clause-within
list-requires-clause-within g c =
    let s = c.loop-chunk.invariant in
    let within : c.loop-chunk.chunk < length c.args.shelf.now.chunks.items = omega arith in
    let inside : c.loop-chunk.skipped < length (g.C.Chunk.entries (arc_value c.index-here.result.now)) =
    subst (λ y. c.loop-chunk.skipped < length (g.C.Chunk.entries (arc_value y))) (sym c.index-here.ensures) (s.inside c.index-here.result.now within) in
    subst (λ v. c.loop-chunk.skipped < length (g.C.Chunk.entries v)) (sym c.deref.ensures) inside

pub loop-chunk-preserved : goal.loop-chunk-preserved
loop-chunk-preserved g c =
    let within : c.loop-chunk.chunk < length c.args.shelf.now.chunks.items = omega arith in
    let some : All (λ x. 0 < length (shared_entries g.C.Chunk.entries x)) c.args.shelf.now.chunks.items =
    All-weaker (IsChunk g.C.Chunk.entries g.C.Chunk.sound) (λ x. 0 < length (shared_entries g.C.Chunk.entries x)) (λ x h. h.some) c.args.shelf.now.chunks.items c.requires.whole.chunks in
    listing_next (shared_entries g.C.Chunk.entries) c.args.shelf.now.chunks.items _ _ _ c.loop-chunk.chunk c.loop-chunk.skipped c.loop-chunk.left c.saturating_sub-left.result c.count.result c.index-here.result.now some c.loop-chunk.invariant within c.index-here.ensures
    (c.count.ensures.pairs ∙ ap (λ v. length (g.C.Chunk.entries v)) c.deref-in-loop-chunk.ensures)
    (c.in_ok-list.ensures ∙ ap (λ v. map (λ pair. (pair.0.now, pair.1.now)) c.loop-chunk.found.items ++ take c.loop-chunk.left (drop c.loop-chunk.skipped (g.C.Chunk.entries v))) c.deref.ensures)
    c.saturating_sub-left.ensures

pub returns-then-left-eq0 : goal.returns-then-left-eq0
returns-then-left-eq0 g c =
    listing_done (shared_entries g.C.Chunk.entries) c.args.shelf.now.chunks.items _ _ c.loop-chunk.chunk c.loop-chunk.skipped c.loop-chunk.left c.loop-chunk.invariant c.if-left-eq0.true

pub returns : goal.returns
returns g c =
    listing_over (shared_entries g.C.Chunk.entries) c.args.shelf.now.chunks.items _ _ c.loop-chunk.chunk c.loop-chunk.skipped c.loop-chunk.left c.loop-chunk.invariant (omega arith)
