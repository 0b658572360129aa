use Rattle.std.proofs.Common.{ap, sym, ◌∙◌}
use Rattle.std.specs.List.{slice_get}
use Rattle.page_map.specs.inner.Chunks.{shared_entries}
use Rattle.page_map.proofs.Flats.{chunk_at}
use Rattle.page_map.proofs.shelf.ShelfChunk.at.Goals as goal

pub returns : goal.returns
returns g c =
    chunk_at (shared_entries g.C.Chunk.entries) c.args.self.now.chunks.items c.find_place-chunk.result.0 c.find_place-chunk.result.1 c.args.place c.index.result.now _ c.find_place-chunk.ensures.chunk c.index.ensures c.find_place-chunk.ensures.place
    (ap (λ v. slice_get (g.C.Chunk.entries v) c.find_place-chunk.result.1) (sym c.deref.ensures) ∙ c.at.ensures)
