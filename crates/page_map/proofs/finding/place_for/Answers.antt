use Rattle.std.proofs.Common.{◌<◌, ◌+◌, ◌-◌, ◌/◌, length, sym, ◌∙◌, arith}
use Rattle.page_map.specs.inner.Chunks.{shared_entries}
use Rattle.page_map.proofs.Steps.{narrowing_down, narrowing_up}
use Rattle.page_map.proofs.Shelves.{chunk_read}
use Rattle.page_map.proofs.finding.place_for.Goals as goal

pub loop-low-preserved-then-begins_above : goal.loop-low-preserved-then-begins_above
loop-low-preserved-then-begins_above g c =
    let s = c.loop-low.invariant in
    let middle = c.loop-low.low + (c.loop-low.high - c.loop-low.low) / 2 in
    narrowing_down g.K.Ord.cmp g.met.K.Ord.total (shared_entries g.C.Chunk.entries) c.args.key.now c.args.shelf.now.chunks.items c.requires.rising c.loop-low.low c.loop-low.high middle c.index.result.now s (omega arith) (omega arith) c.index.ensures
    (sym c.begins_above.ensures ∙ c.if-begins_above.true)

pub loop-low-preserved : goal.loop-low-preserved
loop-low-preserved g c =
    let s = c.loop-low.invariant in
    let middle = c.loop-low.low + (c.loop-low.high - c.loop-low.low) / 2 in
    let within : middle < length c.args.shelf.now.chunks.items = omega (arith, s.within) in
    let here = chunk_read g.C.Chunk.entries g.C.Chunk.sound c.args.shelf.now middle c.index.result.now c.requires.whole within c.index.ensures in
    narrowing_up g.K.Ord.cmp g.met.K.Ord.total (shared_entries g.C.Chunk.entries) c.args.key.now c.args.shelf.now.chunks.items c.requires.rising c.loop-low.low c.loop-low.high middle c.index.result.now s (omega arith) c.index.ensures here.some
    (sym c.begins_above.ensures ∙ c.if-begins_above.false)

pub begins_above-requires : goal.begins_above-requires
begins_above-requires g c =
    let s = c.loop-low.invariant in
    let middle = c.loop-low.low + (c.loop-low.high - c.loop-low.low) / 2 in
    let within : middle < length c.args.shelf.now.chunks.items = omega (arith, s.within) in
    chunk_read g.C.Chunk.entries g.C.Chunk.sound c.args.shelf.now middle c.index.result.now c.requires.whole within c.index.ensures
