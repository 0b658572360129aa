use Rattle.std.proofs.Common.{◌≡◌, ◌<◌, ◌+◌, length, take, ap, sym, ◌∙◌, arith}
use Rattle.std.specs.List.{flat_map}
use Rattle.page_map.specs.inner.Chunks.{shared_entries}
use Rattle.page_map.proofs.Flats.{length_more, two_lengths}
use Rattle.page_map.proofs.Shelves.{chunk_sound}
use Rattle.page_map.proofs.finding.count_before.Goals as goal

pub overflow_add-count : goal.overflow_add-count
overflow_add-count g c =
    let n = two_lengths (shared_entries g.C.Chunk.entries) c.args.shelf.now.chunks.items c.loop-chunk.chunk in
    omega (arith, n, c.loop-chunk.invariant, c.requires.whole.small, c.count-count.ensures.small)

pub count-count-requires : goal.count-count-requires
count-count-requires g c =
    let within : c.loop-chunk.chunk < length c.args.shelf.now.chunks.items = omega (arith, c.requires.within) in
    chunk_sound g.C.Chunk.entries g.C.Chunk.sound c.args.shelf.now c.loop-chunk.chunk c.index.result.now c.deref.result.now c.requires.whole within c.index.ensures c.deref.ensures

pub loop-chunk-preserved : goal.loop-chunk-preserved
loop-chunk-preserved g c =
    let within : c.loop-chunk.chunk < length c.args.shelf.now.chunks.items = omega (arith, c.requires.within) in
    ap (λ n. n + c.count-count.result) c.loop-chunk.invariant
    ∙ (ap (λ n. length (flat_map (shared_entries g.C.Chunk.entries) (take c.loop-chunk.chunk c.args.shelf.now.chunks.items)) + n) (c.count-count.ensures.pairs ∙ ap (λ v. length (g.C.Chunk.entries v)) c.deref.ensures)
    ∙ sym (length_more (shared_entries g.C.Chunk.entries) c.args.shelf.now.chunks.items c.loop-chunk.chunk c.index.result.now within c.index.ensures))

pub returns : goal.returns
returns g c =
    let last : c.loop-chunk.chunk ≡ c.args.place = omega arith in
    c.loop-chunk.invariant ∙ ap (λ n. length (flat_map (shared_entries g.C.Chunk.entries) (take n c.args.shelf.now.chunks.items))) last
