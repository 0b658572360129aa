use Rattle.std.proofs.Common.{◌≡◌, ◌<◌, ℕ, sym, subst, ap, ◌∙◌, arith, refl}
use Rattle.std.specs.Prelude.{Contains}
use Rattle.claim_rule.specs.declared.view.ClaimView.{ClaimView}
use Rattle.claim_rule.specs.Plan.{piece_of}
use Rattle.claim_rule.specs.Views.{times}
use Rattle.claim_rule.specs.Seats.{view_of}
use Rattle.claim_rule.specs.inner.Trial.{three_pieces}
use Rattle.claim_rule.proofs.Trials.{may_claim}
use Rattle.claim_rule.proofs.tests.claim_pairs.Goals as goal

pub claim_row-requires-clause-planned : goal.claim_row-requires-clause-planned
claim_row-requires-clause-planned c =
    let has : Contains (piece_of three_pieces 0) (0, 10) = (0, omega arith, refl) in
    let pending : 0 < times 0 (view_of c.args.seat.now).pending = subst (λ (n : ℕ). 0 < times n (view_of c.args.seat.now).pending) c.in-0.is c.requires.work.pending in
    may_claim (view_of c.args.seat.now) 0 0 10 c.requires.plays.planned pending has

pub claim_row-requires-in-0-clause-planned : goal.claim_row-requires-in-0-clause-planned
claim_row-requires-in-0-clause-planned c =
    let has : Contains (piece_of three_pieces 0) (1, 7) = (1, omega arith, refl) in
    let was : 0 < times 0 (view_of c.args.seat.now).pending = subst (λ (n : ℕ). 0 < times n (view_of c.args.seat.now).pending) c.in-0.is c.requires.work.pending in
    let pending : 0 < times 0 (view_of c.claim_row.new.seat).pending = subst (λ (v : ClaimView). 0 < times 0 v.pending) (sym c.claim_row.ensures.view) was in
    may_claim (view_of c.claim_row.new.seat) 0 1 7 (ap (λ (v : ClaimView). v.plan) c.claim_row.ensures.view ∙ c.requires.plays.planned) pending has

pub claim_row-requires-in-1-clause-planned : goal.claim_row-requires-in-1-clause-planned
claim_row-requires-in-1-clause-planned c =
    let has : Contains (piece_of three_pieces 1) (0, 12) = (0, omega arith, refl) in
    let pending : 0 < times 1 (view_of c.args.seat.now).pending = subst (λ (n : ℕ). 0 < times n (view_of c.args.seat.now).pending) c.in-1.is c.requires.work.pending in
    may_claim (view_of c.args.seat.now) 1 0 12 c.requires.plays.planned pending has

pub claim_row-requires-in_default-clause-planned : goal.claim_row-requires-in_default-clause-planned
claim_row-requires-in_default-clause-planned c =
    let within = c.requires.work.within in
    let last : c.args.piece ≡ 2 = omega arith in
    let has : Contains (piece_of three_pieces 2) (1, 5) = (0, omega arith, refl) in
    let pending : 0 < times 2 (view_of c.args.seat.now).pending = subst (λ (n : ℕ). 0 < times n (view_of c.args.seat.now).pending) last c.requires.work.pending in
    may_claim (view_of c.args.seat.now) 2 1 5 c.requires.plays.planned pending has

pub claim_row-requires-in_default-2-clause-planned : goal.claim_row-requires-in_default-2-clause-planned
claim_row-requires-in_default-2-clause-planned c =
    let within = c.requires.work.within in
    let last : c.args.piece ≡ 2 = omega arith in
    let has : Contains (piece_of three_pieces 2) (0, 3) = (1, omega arith, refl) in
    let was : 0 < times 2 (view_of c.args.seat.now).pending = subst (λ (n : ℕ). 0 < times n (view_of c.args.seat.now).pending) last c.requires.work.pending in
    let pending : 0 < times 2 (view_of c.claim_row-in_default.new.seat).pending = subst (λ (v : ClaimView). 0 < times 2 v.pending) (sym c.claim_row-in_default.ensures.view) was in
    may_claim (view_of c.claim_row-in_default.new.seat) 2 0 3 (ap (λ (v : ClaimView). v.plan) c.claim_row-in_default.ensures.view ∙ c.requires.plays.planned) pending has
