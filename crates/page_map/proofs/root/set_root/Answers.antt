use Rattle.std.proofs.Common.{◌≡◌, ◌<◌, length, ap, sym, ◌∙◌, subst, arith}
use Rattle.std.proofs.lemmas.List.Elements.{All-nil}
use Rattle.std.proofs.lemmas.Result.{err_from_is_err_and}
use Rattle.std.specs.Arc.{arc_value}
use Rattle.std.specs.declared.cmp.Ordering.TheVariants.{Less}
use Rattle.page_map.specs.Pairs.{IsRising, found_at, put_in}
use Rattle.page_map.specs.inner.Chunks.{root_entries, IsRoot}
use Rattle.page_map.specs.laws.Orders.{put_some, rising_put}
use Rattle.page_map.proofs.root.set_root.Goals as goal

pub count-requires : goal.count-requires
count-requires g c = subst g.C.Chunk.sound (sym c.deref.ensures) (subst (IsRoot g.C.Chunk.entries g.C.Chunk.sound) c.in-Some.is c.requires.whole).0

pub set_in-requires-clause-whole : goal.set_in-requires-clause-whole
set_in-requires-clause-whole g c = (subst (IsRoot g.C.Chunk.entries g.C.Chunk.sound) c.in-Some.is c.requires.whole).0

pub set_in-requires-clause-rising : goal.set_in-requires-clause-rising
set_in-requires-clause-rising g c = subst (λ r. IsRising g.K.Ord.cmp (root_entries g.C.Chunk.entries r)) c.in-Some.is c.requires.rising

pub set_in-requires-clause-some : goal.set_in-requires-clause-some
set_in-requires-clause-some g c = (subst (IsRoot g.C.Chunk.entries g.C.Chunk.sound) c.in-Some.is c.requires.whole).1

pub set_in-requires-clause-room : goal.set_in-requires-clause-room
set_in-requires-clause-room g c = c.requires.room (arc_value c.in-Some.top)

pub set_in-requires-clause-small : goal.set_in-requires-clause-small
set_in-requires-clause-small g c = omega (arith, c.count.ensures.pairs, ap (λ v. length (g.C.Chunk.entries v)) c.deref.ensures)

pub returns-in_err-old-in-Some : goal.returns-in_err-old-in-Some
returns-in_err-old-in-Some g c =
    let p = err_from_is_err_and c.from_residual.result c.from_residual.ensures.1 in
    record {
      whole = (c.in_err-old-in-Some.ensures.whole, subst (λ l. 0 < length l) (sym c.in_err-old-in-Some.ensures.err) (subst (IsRoot g.C.Chunk.entries g.C.Chunk.sound) c.in-Some.is c.requires.whole).1);
      rising = subst (IsRising g.K.Ord.cmp) (sym c.in_err-old-in-Some.ensures.err) (subst (λ r. IsRising g.K.Ord.cmp (root_entries g.C.Chunk.entries r)) c.in-Some.is c.requires.rising);
      old = rw p.1 tt;
      new = rw p.1 tt;
      err = rw p.1 (c.in_err-old-in-Some.ensures.err ∙ sym (ap (root_entries g.C.Chunk.entries) c.in-Some.is));
    }

pub returns-in_ok-old-in-Some-clause-whole : goal.returns-in_ok-old-in-Some-clause-whole
returns-in_ok-old-in-Some-clause-whole g c =
    (c.in_ok-old-in-Some.ensures.whole, subst (λ l. 0 < length l) (sym c.in_ok-old-in-Some.ensures.new) (put_some g.K.Ord.cmp c.args.key c.args.value (g.C.Chunk.entries (arc_value c.in-Some.top))))

pub returns-in_ok-old-in-Some-clause-rising : goal.returns-in_ok-old-in-Some-clause-rising
returns-in_ok-old-in-Some-clause-rising g c =
    subst (IsRising g.K.Ord.cmp) (sym c.in_ok-old-in-Some.ensures.new)
    (rising_put g.K.Ord.cmp g.met.K.Ord.total c.args.key c.args.value (g.C.Chunk.entries (arc_value c.in-Some.top))
    (subst (λ r. IsRising g.K.Ord.cmp (root_entries g.C.Chunk.entries r)) c.in-Some.is c.requires.rising))

pub returns-in_ok-old-in-Some-clause-old : goal.returns-in_ok-old-in-Some-clause-old
returns-in_ok-old-in-Some-clause-old g c =
    c.in_ok-old-in-Some.ensures.old ∙ sym (ap (λ r. found_at g.K.Ord.cmp c.args.key (root_entries g.C.Chunk.entries r)) c.in-Some.is)

pub returns-in_ok-old-in-Some-clause-new : goal.returns-in_ok-old-in-Some-clause-new
returns-in_ok-old-in-Some-clause-new g c =
    c.in_ok-old-in-Some.ensures.new ∙ sym (ap (λ r. put_in g.K.Ord.cmp c.args.key c.args.value (root_entries g.C.Chunk.entries r)) c.in-Some.is)

pub returns-in_ok-new-in-None-clause-whole : goal.returns-in_ok-new-in-None-clause-whole
returns-in_ok-new-in-None-clause-whole g c =
    let some : 0 < length (g.C.Chunk.entries c.in_ok-top-in-None.top) = omega (arith, ap length c.in_ok-top-in-None.ensures.pairs) in
    (subst g.C.Chunk.sound (sym c.in_ok-new-in-None.ensures.ok) c.in_ok-top-in-None.ensures.whole, subst (λ t. 0 < length (g.C.Chunk.entries t)) (sym c.in_ok-new-in-None.ensures.ok) some)

pub returns-in_ok-new-in-None-clause-rising : goal.returns-in_ok-new-in-None-clause-rising
returns-in_ok-new-in-None-clause-rising g c =
    subst (IsRising g.K.Ord.cmp) (sym (ap g.C.Chunk.entries c.in_ok-new-in-None.ensures.ok ∙ c.in_ok-top-in-None.ensures.pairs)) (All-nil (λ later. g.K.Ord.cmp c.args.key later.0 ≡ Less), tt)

pub returns-in_ok-new-in-None-clause-old : goal.returns-in_ok-new-in-None-clause-old
returns-in_ok-new-in-None-clause-old g c = sym (ap (λ r. found_at g.K.Ord.cmp c.args.key (root_entries g.C.Chunk.entries r)) c.in-None.is)

pub returns-in_ok-new-in-None-clause-new : goal.returns-in_ok-new-in-None-clause-new
returns-in_ok-new-in-None-clause-new g c =
    ap g.C.Chunk.entries c.in_ok-new-in-None.ensures.ok
    ∙ (c.in_ok-top-in-None.ensures.pairs ∙ sym (ap (λ r. put_in g.K.Ord.cmp c.args.key c.args.value (root_entries g.C.Chunk.entries r)) c.in-None.is))
