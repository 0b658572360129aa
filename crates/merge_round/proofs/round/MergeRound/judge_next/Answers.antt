use Rattle.std.proofs.Common.{◌≡◌, Some, length, refl, sym, subst}
use Rattle.claim_rule.specs.declared.view.ClaimView.{ClaimView}
use Rattle.claim_rule.specs.Seats.{view_of, IsJudgeDraw}
use Rattle.merge_round.specs.Seats.{round_of}
use Rattle.merge_round.proofs.JudgedSeats.{all_done, judged_worker, finds_verdict}
use Rattle.merge_round.proofs.round.MergeRound.judge_next.Goals as goal

pub returns-in-Some-clause-seat : goal.returns-in-Some-clause-seat
returns-in-Some-clause-seat g c =
    let all : c.done-done.result ≡ length (round_of c.args.self.now).all = all_done (round_of c.args.self.now) c.args.seat.now c.count.result c.done-done.result c.requires.seat c.count.ensures c.if-done-count.false c.done-done.ensures.within in
    let draw : IsJudgeDraw (view_of c.done-done.new.seat) (view_of c.judge-verdict.new.seat) (Some c.in-Some.number) =
    subst (λ (u : ClaimView). IsJudgeDraw (view_of c.done-done.new.seat) u (Some c.in-Some.number)) (sym c.judge-verdict.ensures.view) c.in-Some.ensures.draw in
    judged_worker (round_of c.args.self.now) c.args.seat.now _ (view_of c.done-done.new.seat) c.done-done.result c.in-Some.number c.judge-verdict.result c.requires.seat c.if-seat.false all
    c.done-done.ensures.view draw c.judge-verdict.ensures.seat refl refl (sym c.judge-verdict.ensures.verdict) refl

pub returns-in-Some-clause-judges : goal.returns-in-Some-clause-judges
returns-in-Some-clause-judges g c =
    let all : c.done-done.result ≡ length (round_of c.args.self.now).all = all_done (round_of c.args.self.now) c.args.seat.now c.count.result c.done-done.result c.requires.seat c.count.ensures c.if-done-count.false c.done-done.ensures.within in
    let draw : IsJudgeDraw (view_of c.done-done.new.seat) (view_of c.judge-verdict.new.seat) (Some c.in-Some.number) =
    subst (λ (u : ClaimView). IsJudgeDraw (view_of c.done-done.new.seat) u (Some c.in-Some.number)) (sym c.judge-verdict.ensures.view) c.in-Some.ensures.draw in
    finds_verdict (round_of c.args.self.now) c.args.seat.now _ (view_of c.done-done.new.seat) c.done-done.result c.in-Some.number c.judge-verdict.result c.requires.seat c.if-seat.false all
    c.done-done.ensures.view draw (sym c.judge-verdict.ensures.verdict)
