use Rattle.std.proofs.Common.{◌<◌, length, take, drop, ap, sym, ◌∙◌, subst, arith}
use Rattle.std.specs.List.{flat_map}
use Rattle.std.proofs.lemmas.List.Elements.{All-same, All-take, All-drop}
use Rattle.page_map.specs.inner.Chunks.{shared_entries, IsChunk}
use Rattle.page_map.proofs.Flats.{two_lengths}
use Rattle.page_map.proofs.Shelves.{pairs_some}
use Rattle.page_map.proofs.SharedChunks.{parts_of}
use Rattle.page_map.proofs.parting.parts_at.Goals as goal

pub returns-clause-whole : goal.returns-clause-whole
returns-clause-whole g c = (c.in_ok-first.ensures.whole, c.in_ok-last.ensures.whole)

pub returns-clause-pairs : goal.returns-clause-pairs
returns-clause-pairs g c =
    let front = c.split_at.ensures.front ∙ ap (take c.args.place) c.as_slice.ensures.value in
    let back = c.split_at.ensures.back ∙ ap (drop c.args.place) c.as_slice.ensures.value in
    parts_of g.C.Chunk.entries c.args.place c.args.shelf.now.chunks.items front back c.in_ok-first.ensures.pairs c.in_ok-last.ensures.pairs

pub returns-clause-some : goal.returns-clause-some
returns-clause-some g c =
    let front = c.split_at.ensures.front ∙ ap (take c.args.place) c.as_slice.ensures.value in
    let back = c.split_at.ensures.back ∙ ap (drop c.args.place) c.as_slice.ensures.value in
    let some : 0 < length c.split_at.result.0.now = omega arith in
    let more : 0 < length c.split_at.result.1.now = omega arith in
    let first = pairs_some g.C.Chunk.entries g.C.Chunk.sound c.split_at.result.0.now (All-same (IsChunk g.C.Chunk.entries g.C.Chunk.sound) _ _ front (All-take (IsChunk g.C.Chunk.entries g.C.Chunk.sound) c.args.place c.args.shelf.now.chunks.items c.requires.whole.chunks)) some in
    let last = pairs_some g.C.Chunk.entries g.C.Chunk.sound c.split_at.result.1.now (All-same (IsChunk g.C.Chunk.entries g.C.Chunk.sound) _ _ back (All-drop (IsChunk g.C.Chunk.entries g.C.Chunk.sound) c.args.place c.args.shelf.now.chunks.items c.requires.whole.chunks)) more in
    (subst (λ l. 0 < length l) (sym c.in_ok-first.ensures.pairs) first, subst (λ l. 0 < length l) (sym c.in_ok-last.ensures.pairs) last)

-- the first part
pub shelf_of-requires-clause-chunks : goal.shelf_of-requires-clause-chunks
shelf_of-requires-clause-chunks g c =
    let front = c.split_at.ensures.front ∙ ap (take c.args.place) c.as_slice.ensures.value in
    All-same (IsChunk g.C.Chunk.entries g.C.Chunk.sound) _ _ front (All-take (IsChunk g.C.Chunk.entries g.C.Chunk.sound) c.args.place c.args.shelf.now.chunks.items c.requires.whole.chunks)

pub shelf_of-requires-clause-counted : goal.shelf_of-requires-clause-counted
shelf_of-requires-clause-counted g c =
    let front = c.split_at.ensures.front ∙ ap (take c.args.place) c.as_slice.ensures.value in
    c.count_before-count.ensures ∙ ap (λ l. length (flat_map (shared_entries g.C.Chunk.entries) l)) (sym front)

pub shelf_of-requires-clause-small : goal.shelf_of-requires-clause-small
shelf_of-requires-clause-small g c =
    let front = c.split_at.ensures.front ∙ ap (take c.args.place) c.as_slice.ensures.value in
    omega (arith, two_lengths (shared_entries g.C.Chunk.entries) c.args.shelf.now.chunks.items c.args.place, ap (λ l. length (flat_map (shared_entries g.C.Chunk.entries) l)) front, c.requires.whole.small)

-- the last part
pub overflow_sub-shelf : goal.overflow_sub-shelf
overflow_sub-shelf g c =
    omega (arith, two_lengths (shared_entries g.C.Chunk.entries) c.args.shelf.now.chunks.items c.args.place, c.count_before-count.ensures, c.requires.whole.counted)

pub shelf_of-requires-2-clause-chunks : goal.shelf_of-requires-2-clause-chunks
shelf_of-requires-2-clause-chunks g c =
    let back = c.split_at.ensures.back ∙ ap (drop c.args.place) c.as_slice.ensures.value in
    All-same (IsChunk g.C.Chunk.entries g.C.Chunk.sound) _ _ back (All-drop (IsChunk g.C.Chunk.entries g.C.Chunk.sound) c.args.place c.args.shelf.now.chunks.items c.requires.whole.chunks)

pub shelf_of-requires-2-clause-counted : goal.shelf_of-requires-2-clause-counted
shelf_of-requires-2-clause-counted g c =
    let back = c.split_at.ensures.back ∙ ap (drop c.args.place) c.as_slice.ensures.value in
    omega (arith, two_lengths (shared_entries g.C.Chunk.entries) c.args.shelf.now.chunks.items c.args.place, ap (λ l. length (flat_map (shared_entries g.C.Chunk.entries) l)) back, c.count_before-count.ensures, c.requires.whole.counted)

pub shelf_of-requires-2-clause-small : goal.shelf_of-requires-2-clause-small
shelf_of-requires-2-clause-small g c =
    let back = c.split_at.ensures.back ∙ ap (drop c.args.place) c.as_slice.ensures.value in
    omega (arith, two_lengths (shared_entries g.C.Chunk.entries) c.args.shelf.now.chunks.items c.args.place, ap (λ l. length (flat_map (shared_entries g.C.Chunk.entries) l)) back, c.requires.whole.small)
