use Rattle.std.proofs.Common.{◌≡◌, ◌<◌, length, IfOk, OnOk, OnErr, refl, ap, sym, ◌∙◌, subst}
use Rattle.std.proofs.lemmas.Result.{err_from_is_err_and}
use Rattle.page_map.specs.Pairs.{IsRising, found_at, without}
use Rattle.page_map.proofs.sharing.take_in.Goals as goal

-- in place
pub take-requires-clause-whole : goal.take-requires-clause-whole
take-requires-clause-whole g c = subst g.C.Chunk.sound (sym c.in-Some.ensures.value) c.requires.whole

pub take-requires-clause-rising : goal.take-requires-clause-rising
take-requires-clause-rising g c = subst (λ v. IsRising g.K.Ord.cmp (g.C.Chunk.entries v)) (sym c.in-Some.ensures.value) c.requires.rising

pub take-requires-clause-some : goal.take-requires-clause-some
take-requires-clause-some g c = subst (λ v. 0 < length (g.C.Chunk.entries v)) (sym c.in-Some.ensures.value) c.requires.some

pub returns-in-Some : goal.returns-in-Some
returns-in-Some g c = record {
  whole = c.take.ensures.whole;
  old = subst (λ v. IfOk c.take.result (λ old. old ≡ found_at g.K.Ord.cmp c.args.key.now (g.C.Chunk.entries v))) c.in-Some.ensures.value c.take.ensures.old;
  new = subst (λ v. OnOk c.take.result (g.C.Chunk.entries c.take.new.self ≡ without g.K.Ord.cmp c.args.key.now (g.C.Chunk.entries v))) c.in-Some.ensures.value c.take.ensures.new;
  err = subst (λ v. OnErr c.take.result (g.C.Chunk.entries c.take.new.self ≡ g.C.Chunk.entries v)) c.in-Some.ensures.value c.take.ensures.err;
}

-- in a copy
pub duplicate-requires : goal.duplicate-requires
duplicate-requires g c = subst g.C.Chunk.sound (sym c.deref.ensures) c.requires.whole

pub take-requires-in-None-clause-whole : goal.take-requires-in-None-clause-whole
take-requires-in-None-clause-whole g c = c.in_ok-copy-in-None.ensures.whole

pub take-requires-in-None-clause-rising : goal.take-requires-in-None-clause-rising
take-requires-in-None-clause-rising g c =
    subst (IsRising g.K.Ord.cmp) (sym (c.in_ok-copy-in-None.ensures.pairs ∙ ap g.C.Chunk.entries c.deref.ensures)) c.requires.rising

pub take-requires-in-None-clause-some : goal.take-requires-in-None-clause-some
take-requires-in-None-clause-some g c =
    subst (λ l. 0 < length l) (sym (c.in_ok-copy-in-None.ensures.pairs ∙ ap g.C.Chunk.entries c.deref.ensures)) c.requires.some

pub returns-in_ok-shared-in-None-clause-whole : goal.returns-in_ok-shared-in-None-clause-whole
returns-in_ok-shared-in-None-clause-whole g c = subst g.C.Chunk.sound (sym c.in_ok-shared-in-None.ensures.ok) c.in_ok-old-in-None.ensures.whole

pub returns-in_ok-shared-in-None-clause-old : goal.returns-in_ok-shared-in-None-clause-old
returns-in_ok-shared-in-None-clause-old g c =
    c.in_ok-old-in-None.ensures.old ∙ ap (found_at g.K.Ord.cmp c.args.key.now) (c.in_ok-copy-in-None.ensures.pairs ∙ ap g.C.Chunk.entries c.deref.ensures)

pub returns-in_ok-shared-in-None-clause-new : goal.returns-in_ok-shared-in-None-clause-new
returns-in_ok-shared-in-None-clause-new g c =
    ap g.C.Chunk.entries c.in_ok-shared-in-None.ensures.ok
    ∙ (c.in_ok-old-in-None.ensures.new ∙ ap (without g.K.Ord.cmp c.args.key.now) (c.in_ok-copy-in-None.ensures.pairs ∙ ap g.C.Chunk.entries c.deref.ensures))

pub returns-in_err-copy-in-None : goal.returns-in_err-copy-in-None
returns-in_err-copy-in-None g c =
    let p = err_from_is_err_and c.from_residual.result c.from_residual.ensures.1 in
    record { whole = c.requires.whole; old = rw p.1 tt; new = rw p.1 tt; err = rw p.1 refl }

pub returns-in_err-old-in-None : goal.returns-in_err-old-in-None
returns-in_err-old-in-None g c =
    let p = err_from_is_err_and c.from_residual-in_err-old-in-None.result c.from_residual-in_err-old-in-None.ensures.1 in
    record { whole = c.requires.whole; old = rw p.1 tt; new = rw p.1 tt; err = rw p.1 refl }

pub returns-in_err-shared-in-None : goal.returns-in_err-shared-in-None
returns-in_err-shared-in-None g c =
    let p = err_from_is_err_and c.from_residual-in_err-shared-in-None.result c.from_residual-in_err-shared-in-None.ensures.1 in
    record { whole = c.requires.whole; old = rw p.1 tt; new = rw p.1 tt; err = rw p.1 refl }
