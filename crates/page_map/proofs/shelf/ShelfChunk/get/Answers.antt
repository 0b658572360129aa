use Rattle.std.proofs.Common.{ap, sym, ◌∙◌}
use Rattle.page_map.specs.Pairs.{found_at}
use Rattle.page_map.specs.inner.Chunks.{shared_entries}
use Rattle.page_map.proofs.Chunks.{chunk_found}
use Rattle.page_map.proofs.Shelves.{ready}
use Rattle.page_map.proofs.shelf.ShelfChunk.get.Goals as goal

pub get-requires-clause-rising : goal.get-requires-clause-rising
get-requires-clause-rising g c =
    (ready g.K.Ord.cmp g.C.Chunk.entries g.C.Chunk.sound c.args.self.now c.place_for-place.result c.index.result.now c.deref.result.now c.requires.whole c.requires.rising c.place_for-place.ensures.within c.index.ensures c.deref.ensures).rising

pub returns : goal.returns
returns g c =
    c.get.ensures
    ∙ (ap (λ v. found_at g.K.Ord.cmp c.args.key.now (g.C.Chunk.entries v)) c.deref.ensures
    ∙ sym (chunk_found g.K.Ord.cmp (shared_entries g.C.Chunk.entries) c.args.key.now c.args.self.now.chunks.items c.place_for-place.result c.index.result.now c.place_for-place.ensures c.index.ensures))
