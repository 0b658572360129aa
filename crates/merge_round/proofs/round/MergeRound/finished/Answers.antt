use Rattle.std.proofs.Common.{◌<◌, Option, length, sym, ap, ◌∙◌, subst}
use Rattle.std.specs.Prelude.{IfSome}
use Rattle.claim_rule.specs.declared.view.ClaimView.{ClaimView}
use Rattle.claim_rule.specs.Seats.{HasAllShares}
use Rattle.merge_round.specs.declared.seat.WorkerSeat.{WorkerSeat}
use Rattle.merge_round.specs.Seats.{round_of, work_of}
use Rattle.merge_round.specs.inner.Gathering.{IsWhole, IsSettled}
use Rattle.merge_round.proofs.Whole.{once_each, holds_all}
use Rattle.merge_round.proofs.round.MergeRound.finished.Goals as goal

pub outcomes-requires : goal.outcomes-requires
outcomes-requires g c =
    let whole : IsWhole c.args.seats.items c.unwrap-seat.result = subst (λ (o : Option WorkerSeat). IfSome o (IsWhole c.args.seats.items)) c.unwrap-seat.ensures c.together.ensures.whole in
    let all : HasAllShares (round_of c.args.self.now).table (work_of c.settle.new.seat) =
    ap (λ (v : ClaimView). v.shares) c.settle.ensures.work ∙ c.judge_rest.ensures.shares ∙ c.claim_rest.ensures.shares ∙ whole.shares ∙ c.requires.all in
    let late : 0 < length (work_of c.settle.new.seat).judging.late = subst (λ (v : ClaimView). 0 < length v.judging.late) (sym c.settle.ensures.work) c.judge_rest.ensures.over in
    c.deref.ensures.value ∙ holds_all (round_of c.args.self.now) c.settle.new.seat c.settle.ensures.seat all c.settle.ensures.settled late

pub returns-in_err-outcomes-clause-once : goal.returns-in_err-outcomes-clause-once
returns-in_err-outcomes-clause-once g c =
    let whole : IsWhole c.args.seats.items c.unwrap-seat.result = subst (λ (o : Option WorkerSeat). IfSome o (IsWhole c.args.seats.items)) c.unwrap-seat.ensures c.together.ensures.whole in
    let settled : IsSettled (round_of c.args.self.now) c.unwrap-seat.result = subst (λ (o : Option WorkerSeat). IfSome o (IsSettled (round_of c.args.self.now))) c.unwrap-seat.ensures c.together.ensures.settled in
    once_each c.args.seats.items c.unwrap-seat.result whole settled.once

pub returns-clause-once : goal.returns-clause-once
returns-clause-once g c =
    let whole : IsWhole c.args.seats.items c.unwrap-seat.result = subst (λ (o : Option WorkerSeat). IfSome o (IsWhole c.args.seats.items)) c.unwrap-seat.ensures c.together.ensures.whole in
    let settled : IsSettled (round_of c.args.self.now) c.unwrap-seat.result = subst (λ (o : Option WorkerSeat). IfSome o (IsSettled (round_of c.args.self.now))) c.unwrap-seat.ensures c.together.ensures.settled in
    once_each c.args.seats.items c.unwrap-seat.result whole settled.once
