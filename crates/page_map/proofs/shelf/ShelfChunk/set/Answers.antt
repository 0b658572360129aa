use Rattle.std.proofs.Common.{◌≡◌, ◌<◌, length, IfOk, OnOk, OnErr, sym, subst}
use Rattle.page_map.specs.Pairs.{IsRising, found_at, put_in}
use Rattle.page_map.specs.declared.limits.TheConstants.{MOST_PAIRS}
use Rattle.page_map.specs.inner.Chunks.{shelf_entries}
use Rattle.page_map.proofs.shelf.ShelfChunk.set.Goals as goal

pub set_at-requires-clause-rising : goal.set_at-requires-clause-rising
set_at-requires-clause-rising g c = subst (IsRising g.K.Ord.cmp) (sym c.in_ok-place.ensures.pairs) c.requires.rising

pub set_at-requires-clause-small : goal.set_at-requires-clause-small
set_at-requires-clause-small g c = subst (λ l. length l < MOST_PAIRS) (sym c.in_ok-place.ensures.pairs) c.requires.small

pub returns : goal.returns
returns g c = record {
  whole = c.set_at.ensures.whole;
  old = subst (λ l. IfOk c.set_at.result (λ old. old ≡ found_at g.K.Ord.cmp c.args.key l)) c.in_ok-place.ensures.pairs c.set_at.ensures.old;
  new = subst (λ l. OnOk c.set_at.result (shelf_entries g.C.Chunk.entries c.set_at.new.shelf ≡ put_in g.K.Ord.cmp c.args.key c.args.value l)) c.in_ok-place.ensures.pairs c.set_at.ensures.new;
  err = subst (λ l. OnErr c.set_at.result (shelf_entries g.C.Chunk.entries c.set_at.new.shelf ≡ l)) c.in_ok-place.ensures.pairs c.set_at.ensures.err;
}
