use Rattle.std.proofs.Common.{◌<◌, ap, sym, ◌∙◌, arith}
use Rattle.std.specs.List.{flat_map}
use Rattle.std.proofs.lemmas.Result.{err_from_is_err_and}
use Rattle.page_map.specs.inner.Chunks.{shared_entries}
use Rattle.page_map.proofs.Chunks.{chunk_rising, chunk_found}
use Rattle.page_map.proofs.Shelves.{chunk_read, chunk_sound, right_at, whole_from}
use Rattle.page_map.proofs.Changes.{sound_after, changing, after_read, had_within, kept, taken_there, last_taken}
use Rattle.page_map.proofs.changing.take_at.Goals as goal

pub take_in-requires-clause-rising : goal.take_in-requires-clause-rising
take_in-requires-clause-rising g c =
    chunk_rising g.K.Ord.cmp (shared_entries g.C.Chunk.entries) c.args.shelf.now.chunks.items c.args.place c.index_mut.result.now c.requires.place.within c.index_mut.ensures.value c.requires.rising

pub returns-in_err-old-clause-whole : goal.returns-in_err-old-clause-whole
returns-in_err-old-clause-whole g c =
    let h = changing g.C.Chunk.entries g.C.Chunk.sound c.args.shelf.now c.args.place c.index.result.now c.index_mut.result.now c.take_in.new.shared c.deref.result.now c.count-before.result c.requires.whole c.requires.place.within c.index.ensures c.index_mut.ensures.value c.deref.ensures c.count-before.ensures.pairs c.take_in.ensures.whole in
    whole_from g.C.Chunk.entries g.C.Chunk.sound _ _ (kept g.C.Chunk.entries g.C.Chunk.sound c.args.shelf.now c.args.place c.index_mut.result.now c.take_in.new.shared c.count-before.result h c.in_err-old.ensures.err)

pub returns-in_err-old-clause-err : goal.returns-in_err-old-clause-err
returns-in_err-old-clause-err g c =
    let h = changing g.C.Chunk.entries g.C.Chunk.sound c.args.shelf.now c.args.place c.index.result.now c.index_mut.result.now c.take_in.new.shared c.deref.result.now c.count-before.result c.requires.whole c.requires.place.within c.index.ensures c.index_mut.ensures.value c.deref.ensures c.count-before.ensures.pairs c.take_in.ensures.whole in
    let p = err_from_is_err_and c.from_residual.result c.from_residual.ensures.1 in
    rw p.1 (kept g.C.Chunk.entries g.C.Chunk.sound c.args.shelf.now c.args.place c.index_mut.result.now c.take_in.new.shared c.count-before.result h c.in_err-old.ensures.err).same

pub overflow_sub-shelf : goal.overflow_sub-shelf
overflow_sub-shelf g c =
    let h = changing g.C.Chunk.entries g.C.Chunk.sound c.args.shelf.now c.args.place c.index.result.now c.index_mut.result.now c.take_in.new.shared c.deref.result.now c.count-before.result c.requires.whole c.requires.place.within c.index.ensures c.index_mut.ensures.value c.deref.ensures c.count-before.ensures.pairs c.take_in.ensures.whole in
    had_within g.C.Chunk.entries g.C.Chunk.sound c.args.shelf.now c.args.place c.index_mut.result.now c.take_in.new.shared c.count-before.result h

pub returns-then-after-eq0-clause-whole : goal.returns-then-after-eq0-clause-whole
returns-then-after-eq0-clause-whole g c =
    let h = changing g.C.Chunk.entries g.C.Chunk.sound c.args.shelf.now c.args.place c.index.result.now c.index_mut.result.now c.take_in.new.shared c.deref.result.now c.count-before.result c.requires.whole c.requires.place.within c.index.ensures c.index_mut.ensures.value c.deref.ensures c.count-before.ensures.pairs c.take_in.ensures.whole in
    let a = after_read g.C.Chunk.entries g.C.Chunk.sound c.args.shelf.now.chunks.items c.args.place c.take_in.new.shared c.index-2.result.now c.deref-2.result.now c.count-after.result c.requires.place.within c.index-2.ensures c.deref-2.ensures c.count-after.ensures.pairs in
    whole_from g.C.Chunk.entries g.C.Chunk.sound _ _ (right_at g.C.Chunk.entries g.C.Chunk.sound _ _ _ _ c.remove.ensures.items (last_taken g.K.Ord.cmp g.C.Chunk.entries g.C.Chunk.sound c.args.key.now c.args.shelf.now c.args.place c.index_mut.result.now c.take_in.new.shared c.count-before.result h c.requires.place c.count-after.result a c.in_ok-old.ensures.new c.if-after-eq0.true))

pub returns-then-after-eq0-clause-old : goal.returns-then-after-eq0-clause-old
returns-then-after-eq0-clause-old g c =
    c.in_ok-old.ensures.old
    ∙ sym (chunk_found g.K.Ord.cmp (shared_entries g.C.Chunk.entries) c.args.key.now c.args.shelf.now.chunks.items c.args.place c.index_mut.result.now c.requires.place c.index_mut.ensures.value)

pub returns-then-after-eq0-clause-new : goal.returns-then-after-eq0-clause-new
returns-then-after-eq0-clause-new g c =
    let h = changing g.C.Chunk.entries g.C.Chunk.sound c.args.shelf.now c.args.place c.index.result.now c.index_mut.result.now c.take_in.new.shared c.deref.result.now c.count-before.result c.requires.whole c.requires.place.within c.index.ensures c.index_mut.ensures.value c.deref.ensures c.count-before.ensures.pairs c.take_in.ensures.whole in
    let a = after_read g.C.Chunk.entries g.C.Chunk.sound c.args.shelf.now.chunks.items c.args.place c.take_in.new.shared c.index-2.result.now c.deref-2.result.now c.count-after.result c.requires.place.within c.index-2.ensures c.deref-2.ensures c.count-after.ensures.pairs in
    ap (flat_map (shared_entries g.C.Chunk.entries)) c.remove.ensures.items
    ∙ (last_taken g.K.Ord.cmp g.C.Chunk.entries g.C.Chunk.sound c.args.key.now c.args.shelf.now c.args.place c.index_mut.result.now c.take_in.new.shared c.count-before.result h c.requires.place c.count-after.result a c.in_ok-old.ensures.new c.if-after-eq0.true).same

pub returns-clause-whole : goal.returns-clause-whole
returns-clause-whole g c =
    let h = changing g.C.Chunk.entries g.C.Chunk.sound c.args.shelf.now c.args.place c.index.result.now c.index_mut.result.now c.take_in.new.shared c.deref.result.now c.count-before.result c.requires.whole c.requires.place.within c.index.ensures c.index_mut.ensures.value c.deref.ensures c.count-before.ensures.pairs c.take_in.ensures.whole in
    let a = after_read g.C.Chunk.entries g.C.Chunk.sound c.args.shelf.now.chunks.items c.args.place c.take_in.new.shared c.index-2.result.now c.deref-2.result.now c.count-after.result c.requires.place.within c.index-2.ensures c.deref-2.ensures c.count-after.ensures.pairs in
    let some : 0 < c.count-after.result = omega arith in
    whole_from g.C.Chunk.entries g.C.Chunk.sound _ _ (taken_there g.K.Ord.cmp g.C.Chunk.entries g.C.Chunk.sound c.args.key.now c.args.shelf.now c.args.place c.index_mut.result.now c.take_in.new.shared c.count-before.result h c.requires.place c.count-after.result a c.in_ok-old.ensures.new some)

pub returns-clause-old : goal.returns-clause-old
returns-clause-old g c =
    c.in_ok-old.ensures.old
    ∙ sym (chunk_found g.K.Ord.cmp (shared_entries g.C.Chunk.entries) c.args.key.now c.args.shelf.now.chunks.items c.args.place c.index_mut.result.now c.requires.place c.index_mut.ensures.value)

pub returns-clause-new : goal.returns-clause-new
returns-clause-new g c =
    let h = changing g.C.Chunk.entries g.C.Chunk.sound c.args.shelf.now c.args.place c.index.result.now c.index_mut.result.now c.take_in.new.shared c.deref.result.now c.count-before.result c.requires.whole c.requires.place.within c.index.ensures c.index_mut.ensures.value c.deref.ensures c.count-before.ensures.pairs c.take_in.ensures.whole in
    let a = after_read g.C.Chunk.entries g.C.Chunk.sound c.args.shelf.now.chunks.items c.args.place c.take_in.new.shared c.index-2.result.now c.deref-2.result.now c.count-after.result c.requires.place.within c.index-2.ensures c.deref-2.ensures c.count-after.ensures.pairs in
    let some : 0 < c.count-after.result = omega arith in
    (taken_there g.K.Ord.cmp g.C.Chunk.entries g.C.Chunk.sound c.args.key.now c.args.shelf.now c.args.place c.index_mut.result.now c.take_in.new.shared c.count-before.result h c.requires.place c.count-after.result a c.in_ok-old.ensures.new some).same

pub count-before-requires : goal.count-before-requires
count-before-requires g c =
    chunk_sound g.C.Chunk.entries g.C.Chunk.sound c.args.shelf.now c.args.place c.index.result.now c.deref.result.now c.requires.whole c.requires.place.within c.index.ensures c.deref.ensures

pub count-after-requires : goal.count-after-requires
count-after-requires g c =
    sound_after g.C.Chunk.sound c.args.shelf.now.chunks.items c.args.place c.take_in.new.shared c.index-2.result.now c.deref-2.result.now c.requires.place.within c.index-2.ensures c.deref-2.ensures c.take_in.ensures.whole

pub take_in-requires-clause-whole : goal.take_in-requires-clause-whole
take_in-requires-clause-whole g c =
    (chunk_read g.C.Chunk.entries g.C.Chunk.sound c.args.shelf.now c.args.place c.index_mut.result.now c.requires.whole c.requires.place.within c.index_mut.ensures.value).whole

pub take_in-requires-clause-some : goal.take_in-requires-clause-some
take_in-requires-clause-some g c =
    (chunk_read g.C.Chunk.entries g.C.Chunk.sound c.args.shelf.now c.args.place c.index_mut.result.now c.requires.whole c.requires.place.within c.index_mut.ensures.value).some
