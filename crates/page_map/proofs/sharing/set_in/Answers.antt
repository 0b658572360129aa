use Rattle.std.proofs.Common.{◌≡◌, ◌<◌, length, IfOk, OnOk, OnErr, refl, ap, sym, ◌∙◌, subst}
use Rattle.std.proofs.lemmas.Result.{err_from_is_err_and}
use Rattle.page_map.specs.Pairs.{IsRising, found_at, put_in}
use Rattle.page_map.specs.declared.limits.TheConstants.{MOST_PAIRS}
use Rattle.page_map.proofs.sharing.set_in.Goals as goal

-- in place
pub set-requires-clause-whole : goal.set-requires-clause-whole
set-requires-clause-whole g c = subst g.C.Chunk.sound (sym c.in-Some.ensures.value) c.requires.whole

pub set-requires-clause-rising : goal.set-requires-clause-rising
set-requires-clause-rising g c = subst (λ v. IsRising g.K.Ord.cmp (g.C.Chunk.entries v)) (sym c.in-Some.ensures.value) c.requires.rising

pub set-requires-clause-some : goal.set-requires-clause-some
set-requires-clause-some g c = subst (λ v. 0 < length (g.C.Chunk.entries v)) (sym c.in-Some.ensures.value) c.requires.some

pub set-requires-clause-room : goal.set-requires-clause-room
set-requires-clause-room g c = subst g.C.Chunk.room (sym c.in-Some.ensures.value) c.requires.room

pub set-requires-clause-small : goal.set-requires-clause-small
set-requires-clause-small g c = subst (λ v. length (g.C.Chunk.entries v) < MOST_PAIRS) (sym c.in-Some.ensures.value) c.requires.small

pub returns-in-Some : goal.returns-in-Some
returns-in-Some g c = record {
  whole = c.set.ensures.whole;
  old = subst (λ v. IfOk c.set.result (λ old. old ≡ found_at g.K.Ord.cmp c.args.key (g.C.Chunk.entries v))) c.in-Some.ensures.value c.set.ensures.old;
  new = subst (λ v. OnOk c.set.result (g.C.Chunk.entries c.set.new.self ≡ put_in g.K.Ord.cmp c.args.key c.args.value (g.C.Chunk.entries v))) c.in-Some.ensures.value c.set.ensures.new;
  err = subst (λ v. OnErr c.set.result (g.C.Chunk.entries c.set.new.self ≡ g.C.Chunk.entries v)) c.in-Some.ensures.value c.set.ensures.err;
}

-- in a copy
pub duplicate-requires : goal.duplicate-requires
duplicate-requires g c = subst g.C.Chunk.sound (sym c.deref.ensures) c.requires.whole

pub set-requires-in-None-clause-whole : goal.set-requires-in-None-clause-whole
set-requires-in-None-clause-whole g c = c.in_ok-copy-in-None.ensures.whole

pub set-requires-in-None-clause-rising : goal.set-requires-in-None-clause-rising
set-requires-in-None-clause-rising g c =
    subst (IsRising g.K.Ord.cmp) (sym (c.in_ok-copy-in-None.ensures.pairs ∙ ap g.C.Chunk.entries c.deref.ensures)) c.requires.rising

pub set-requires-in-None-clause-some : goal.set-requires-in-None-clause-some
set-requires-in-None-clause-some g c =
    subst (λ l. 0 < length l) (sym (c.in_ok-copy-in-None.ensures.pairs ∙ ap g.C.Chunk.entries c.deref.ensures)) c.requires.some

pub set-requires-in-None-clause-room : goal.set-requires-in-None-clause-room
set-requires-in-None-clause-room g c = c.in_ok-copy-in-None.ensures.room (subst g.C.Chunk.room (sym c.deref.ensures) c.requires.room)

pub set-requires-in-None-clause-small : goal.set-requires-in-None-clause-small
set-requires-in-None-clause-small g c =
    subst (λ l. length l < MOST_PAIRS) (sym (c.in_ok-copy-in-None.ensures.pairs ∙ ap g.C.Chunk.entries c.deref.ensures)) c.requires.small

pub returns-in_ok-shared-in-None-clause-whole : goal.returns-in_ok-shared-in-None-clause-whole
returns-in_ok-shared-in-None-clause-whole g c = subst g.C.Chunk.sound (sym c.in_ok-shared-in-None.ensures.ok) c.in_ok-old-in-None.ensures.whole

pub returns-in_ok-shared-in-None-clause-old : goal.returns-in_ok-shared-in-None-clause-old
returns-in_ok-shared-in-None-clause-old g c =
    c.in_ok-old-in-None.ensures.old ∙ ap (found_at g.K.Ord.cmp c.args.key) (c.in_ok-copy-in-None.ensures.pairs ∙ ap g.C.Chunk.entries c.deref.ensures)

pub returns-in_ok-shared-in-None-clause-new : goal.returns-in_ok-shared-in-None-clause-new
returns-in_ok-shared-in-None-clause-new g c =
    ap g.C.Chunk.entries c.in_ok-shared-in-None.ensures.ok
    ∙ (c.in_ok-old-in-None.ensures.new ∙ ap (put_in g.K.Ord.cmp c.args.key c.args.value) (c.in_ok-copy-in-None.ensures.pairs ∙ ap g.C.Chunk.entries c.deref.ensures))

pub returns-in_err-copy-in-None : goal.returns-in_err-copy-in-None
returns-in_err-copy-in-None g c =
    let p = err_from_is_err_and c.from_residual.result c.from_residual.ensures.1 in
    record { whole = c.requires.whole; old = rw p.1 tt; new = rw p.1 tt; err = rw p.1 refl }

pub returns-in_err-old-in-None : goal.returns-in_err-old-in-None
returns-in_err-old-in-None g c =
    let p = err_from_is_err_and c.from_residual-in_err-old-in-None.result c.from_residual-in_err-old-in-None.ensures.1 in
    record { whole = c.requires.whole; old = rw p.1 tt; new = rw p.1 tt; err = rw p.1 refl }

pub returns-in_err-shared-in-None : goal.returns-in_err-shared-in-None
returns-in_err-shared-in-None g c =
    let p = err_from_is_err_and c.from_residual-in_err-shared-in-None.result c.from_residual-in_err-shared-in-None.ensures.1 in
    record { whole = c.requires.whole; old = rw p.1 tt; new = rw p.1 tt; err = rw p.1 refl }
