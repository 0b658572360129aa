use Rattle.std.proofs.Common.{◌+◌, ◌≤◌, ap, sym, ◌∙◌, subst}
use Rattle.std.specs.List.{flat_map}
use Rattle.std.specs.Arc.{arc_value}
use Rattle.std.proofs.lemmas.List.{get_or_read}
use Rattle.page_map.specs.inner.Cuts.{IsInChunk}
use Rattle.page_map.specs.inner.Chunks.{shared_entries}
use Rattle.page_map.proofs.Rooms.{halved_pairs, in_first, in_last, first_at, last_at}
use Rattle.page_map.proofs.Shelves.{chunk_read, chunk_sound, shelf_halved}
use Rattle.page_map.proofs.Changes.{same_read}
use Rattle.page_map.proofs.making_room.make_room.Goals as goal

pub returns-then-above-clause-whole : goal.returns-then-above-clause-whole
returns-then-above-clause-whole g c =
    shelf_halved g.C.Chunk.entries g.C.Chunk.sound c.args.shelf.now c.put_halves.new.shelf c.place_for-place.result c.index-2.result.now c.in_ok-first.first c.in_ok-first.last c.requires.whole c.place_for-place.ensures.within c.index-2.ensures c.in_ok-first.ensures.pairs c.in_ok-first.ensures.first c.in_ok-first.ensures.last c.in_ok-put_halves.ensures.count c.in_ok-put_halves.ensures.ok

pub returns-then-above-clause-pairs : goal.returns-then-above-clause-pairs
returns-then-above-clause-pairs g c =
    ap (flat_map (shared_entries g.C.Chunk.entries)) c.in_ok-put_halves.ensures.ok
    ∙ halved_pairs (shared_entries g.C.Chunk.entries) c.args.shelf.now.chunks.items c.place_for-place.result c.index-2.result.now c.in_ok-first.first c.in_ok-first.last c.place_for-place.ensures.within c.index-2.ensures c.in_ok-first.ensures.pairs

pub returns-then-above-clause-place : goal.returns-then-above-clause-place
returns-then-above-clause-place g c =
    subst (λ l. IsInChunk g.K.Ord.cmp (shared_entries g.C.Chunk.entries) c.args.key.now l c.place_for-place.result) (sym c.in_ok-put_halves.ensures.ok)
    (in_first g.K.Ord.cmp g.met.K.Ord.total (shared_entries g.C.Chunk.entries) c.args.key.now c.args.shelf.now.chunks.items c.requires.rising c.place_for-place.result c.index-2.result.now c.in_ok-first.first c.in_ok-first.last c.place_for-place.ensures c.index-2.ensures c.in_ok-first.ensures.pairs (sym c.begins_above-above.ensures ∙ c.if-above.true))

pub returns-clause-whole : goal.returns-clause-whole
returns-clause-whole g c =
    shelf_halved g.C.Chunk.entries g.C.Chunk.sound c.args.shelf.now c.put_halves.new.shelf c.place_for-place.result c.index-2.result.now c.in_ok-first.first c.in_ok-first.last c.requires.whole c.place_for-place.ensures.within c.index-2.ensures c.in_ok-first.ensures.pairs c.in_ok-first.ensures.first c.in_ok-first.ensures.last c.in_ok-put_halves.ensures.count c.in_ok-put_halves.ensures.ok

pub returns-clause-pairs : goal.returns-clause-pairs
returns-clause-pairs g c =
    ap (flat_map (shared_entries g.C.Chunk.entries)) c.in_ok-put_halves.ensures.ok
    ∙ halved_pairs (shared_entries g.C.Chunk.entries) c.args.shelf.now.chunks.items c.place_for-place.result c.index-2.result.now c.in_ok-first.first c.in_ok-first.last c.place_for-place.ensures.within c.index-2.ensures c.in_ok-first.ensures.pairs

pub returns-clause-place : goal.returns-clause-place
returns-clause-place g c =
    subst (λ l. IsInChunk g.K.Ord.cmp (shared_entries g.C.Chunk.entries) c.args.key.now l (c.place_for-place.result + 1)) (sym c.in_ok-put_halves.ensures.ok)
    (in_last g.K.Ord.cmp g.met.K.Ord.total (shared_entries g.C.Chunk.entries) c.args.key.now c.args.shelf.now.chunks.items c.requires.rising c.place_for-place.result c.index-2.result.now c.in_ok-first.first c.in_ok-first.last c.place_for-place.ensures c.index-2.ensures c.in_ok-first.ensures.pairs c.in_ok-first.ensures.last.some (sym c.begins_above-above.ensures ∙ c.if-above.false))

pub returns-then-above-clause-room : goal.returns-then-above-clause-room
returns-then-above-clause-room g c =
    first_at c.args.shelf.now.chunks.items c.place_for-place.result c.in_ok-first.first c.in_ok-first.last (λ x. g.C.Chunk.room (arc_value x)) c.put_halves.new.shelf.chunks.items c.place_for-place.ensures.within c.in_ok-put_halves.ensures.ok c.in_ok-first.ensures.room.0

pub returns-clause-room : goal.returns-clause-room
returns-clause-room g c =
    last_at c.args.shelf.now.chunks.items c.place_for-place.result c.in_ok-first.first c.in_ok-first.last (λ x. g.C.Chunk.room (arc_value x)) c.put_halves.new.shelf.chunks.items c.place_for-place.ensures.within c.in_ok-put_halves.ensures.ok c.in_ok-first.ensures.room.1

pub is_full-requires : goal.is_full-requires
is_full-requires g c =
    chunk_sound g.C.Chunk.entries g.C.Chunk.sound c.args.shelf.now c.place_for-place.result c.index.result.now c.deref.result.now c.requires.whole c.place_for-place.ensures.within c.index.ensures c.deref.ensures

pub shared_halves-requires-clause-whole : goal.shared_halves-requires-clause-whole
shared_halves-requires-clause-whole g c =
    (chunk_read g.C.Chunk.entries g.C.Chunk.sound c.args.shelf.now c.place_for-place.result c.index-2.result.now c.requires.whole c.place_for-place.ensures.within c.index-2.ensures).whole

pub shared_halves-requires-clause-full : goal.shared_halves-requires-clause-full
shared_halves-requires-clause-full g c =
    subst (λ v. 2 ≤ g.C.Chunk.parts v)
    (c.deref.ensures ∙ ap arc_value (same_read c.args.shelf.now.chunks.items c.place_for-place.result c.index.result.now c.index-2.result.now c.place_for-place.ensures.within c.index.ensures c.index-2.ensures))
    (c.is_full.ensures.full c.if-not-is_full.false)

pub begins_above-above-requires : goal.begins_above-above-requires
begins_above-above-requires g c = c.in_ok-first.ensures.last

pub returns-then-not-is_full-clause-room : goal.returns-then-not-is_full-clause-room
returns-then-not-is_full-clause-room g c =
    λ d. subst g.C.Chunk.room
    (c.deref.ensures ∙ ap arc_value (get_or_read c.args.shelf.now.chunks.items c.place_for-place.result c.index.result.now c.place_for-place.ensures.within c.index.ensures d))
    (c.is_full.ensures.room c.if-not-is_full.true)
