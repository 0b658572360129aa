use Rattle.std.proofs.Common.{◌<◌, length, ap, ◌∙◌, arith}
use Rattle.page_map.specs.inner.Chunks.{shared_entries}
use Rattle.page_map.proofs.Flats.{chunks_some, walking_first, walking_within, walking_next, walking_rest}
use Rattle.page_map.proofs.Shelves.{chunk_sound}
use Rattle.page_map.proofs.finding.find_place.Goals as goal

pub loop-count-init : goal.loop-count-init
loop-count-init g c =
    walking_first (shared_entries g.C.Chunk.entries) c.args.shelf.now.chunks.items c.args.place c.count-count.result c.index.result.now c.requires.within c.index.ensures
    (c.count-count.ensures.pairs ∙ ap (λ v. length (g.C.Chunk.entries v)) c.deref.ensures)

pub loop-count-preserved : goal.loop-count-preserved
loop-count-preserved g c =
    let w = c.loop-count.invariant in
    let within = walking_within (shared_entries g.C.Chunk.entries) c.args.shelf.now.chunks.items c.args.place c.loop-count.chunk c.loop-count.rest c.loop-count.count w c.requires.within c.loop-count-test.true in
    walking_next (shared_entries g.C.Chunk.entries) c.args.shelf.now.chunks.items c.args.place c.loop-count.chunk c.loop-count.rest c.loop-count.count c.index-in-loop-count.result.now c.count-count-in-loop-count.result w c.loop-count-test.true within c.index-in-loop-count.ensures
    (c.count-count-in-loop-count.ensures.pairs ∙ ap (λ v. length (g.C.Chunk.entries v)) c.deref-in-loop-count.ensures)

pub count-count-requires : goal.count-count-requires
count-count-requires g c =
    let some : 0 < length c.args.shelf.now.chunks.items = chunks_some (shared_entries g.C.Chunk.entries) c.args.shelf.now.chunks.items (omega (arith, c.requires.within)) in
    chunk_sound g.C.Chunk.entries g.C.Chunk.sound c.args.shelf.now 0 c.index.result.now c.deref.result.now c.requires.whole some c.index.ensures c.deref.ensures

pub count-count-requires-in-loop-count : goal.count-count-requires-in-loop-count
count-count-requires-in-loop-count g c =
    let within = walking_within (shared_entries g.C.Chunk.entries) c.args.shelf.now.chunks.items c.args.place c.loop-count.chunk c.loop-count.rest c.loop-count.count c.loop-count.invariant c.requires.within c.loop-count-test.true in
    chunk_sound g.C.Chunk.entries g.C.Chunk.sound c.args.shelf.now _ c.index-in-loop-count.result.now c.deref-in-loop-count.result.now c.requires.whole within c.index-in-loop-count.ensures c.deref-in-loop-count.ensures

pub returns-clause-chunk : goal.returns-clause-chunk
returns-clause-chunk g c = c.loop-count.invariant.within

pub returns-clause-rest : goal.returns-clause-rest
returns-clause-rest g c =
    walking_rest (shared_entries g.C.Chunk.entries) c.args.shelf.now.chunks.items c.args.place c.loop-count.chunk c.loop-count.rest c.loop-count.count c.loop-count.invariant c.loop-count-test.false

pub returns-clause-place : goal.returns-clause-place
returns-clause-place g c = c.loop-count.invariant.left
