use Rattle.std.proofs.Common.{◌+◌, ap, sym, ◌∙◌, subst, refl, arith}
use Rattle.std.specs.Arc.{arc_value}
use Rattle.page_map.specs.Borders.{IsBorder, border_in}
use Rattle.page_map.specs.inner.Chunks.{shared_entries}
use Rattle.page_map.proofs.Bordering.{border_of_chunk, border_there, border_length}
use Rattle.page_map.proofs.Chunks.{three_lengths}
use Rattle.page_map.proofs.shelf.ShelfChunk.place_where.Goals as goal

pub place_where-requires-clause-parted : goal.place_where-requires-clause-parted
place_where-requires-clause-parted g c =
    subst (λ v. IsBorder (g.B.Border.before c.args.border.now) (g.C.Chunk.entries v)) (sym c.deref.ensures)
    (border_of_chunk (g.B.Border.before c.args.border.now) (shared_entries g.C.Chunk.entries) c.args.self.now.chunks.items c.border_chunk-place.result c.index.result.now (omega (arith, c.border_chunk-place.ensures.ordered, c.border_chunk-place.ensures.within)) c.index.ensures c.requires.parted)

pub overflow_add-result : goal.overflow_add-result
overflow_add-result g c =
    let s = c.border_chunk-place.ensures in
    let p = c.place_where.ensures ∙ ap (λ v. border_in (g.B.Border.before c.args.border.now) (g.C.Chunk.entries v)) c.deref.ensures in
    omega (arith, p, c.count_before.ensures, c.requires.whole.small, three_lengths (shared_entries g.C.Chunk.entries) c.args.self.now.chunks.items c.border_chunk-place.result c.index.result.now (omega (arith, s.within)) c.index.ensures, border_length (g.B.Border.before c.args.border.now) (g.C.Chunk.entries (arc_value c.index.result.now)))

pub returns : goal.returns
returns g c =
    let p = c.place_where.ensures ∙ ap (λ v. border_in (g.B.Border.before c.args.border.now) (g.C.Chunk.entries v)) c.deref.ensures in
    omega (arith, p, c.count_before.ensures, border_there (g.B.Border.before c.args.border.now) (shared_entries g.C.Chunk.entries) c.args.self.now.chunks.items c.border_chunk-place.result (c.border_chunk-place.result + 1) c.index.result.now c.border_chunk-place.ensures refl c.index.ensures)
