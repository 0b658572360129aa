use Rattle.std.proofs.Common.{List, [], ◌∷◌, ◌++◌, sym, ap, ◌∙◌, subst}
use Rattle.std.proofs.lemmas.List.{append_assoc}
use Rattle.std.specs.Prelude.{All}
use Rattle.merge_round.specs.declared.seat.WorkerSeat.{WorkerSeat}
use Rattle.merge_round.specs.Seats.{round_of, IsWorkerOf}
use Rattle.merge_round.proofs.Seating.{last_all, front_all}
use Rattle.merge_round.proofs.Whole.{one_whole, more_whole}
use Rattle.merge_round.proofs.round.MergeRound.together.Goals as goal

pub loop-other-init : goal.loop-other-init
loop-other-init g c =
    let all : All (IsWorkerOf (round_of c.args.self.now)) (c.pop.new.self.items ++ c.in_ok-seat.seat ∷ []) =
    subst (All (IsWorkerOf (round_of c.args.self.now))) c.in_ok-seat.ensures.items c.requires in (
      last_all (IsWorkerOf (round_of c.args.self.now)) c.pop.new.self.items c.in_ok-seat.seat all,
      front_all (IsWorkerOf (round_of c.args.self.now)) c.pop.new.self.items c.in_ok-seat.seat all,
      (c.in_ok-seat.seat ∷ [], sym c.in_ok-seat.ensures.items, one_whole c.in_ok-seat.seat),
    )

pub join-requires-clause-other : goal.join-requires-clause-other
join-requires-clause-other g c =
    last_all (IsWorkerOf (round_of c.args.self.now)) c.pop-in-loop-other.new.self.items c.in-Some.other (subst (All (IsWorkerOf (round_of c.args.self.now))) c.in-Some.ensures.items c.loop-other.invariant.1)

pub loop-other-preserved : goal.loop-other-preserved
loop-other-preserved g c =
    let before = c.loop-other.invariant.2 in (
      c.join.ensures.seat,
      front_all (IsWorkerOf (round_of c.args.self.now)) c.pop-in-loop-other.new.self.items c.in-Some.other (subst (All (IsWorkerOf (round_of c.args.self.now))) c.in-Some.ensures.items c.loop-other.invariant.1),
      (
        c.in-Some.other ∷ before.0,
        sym (append_assoc c.pop-in-loop-other.new.self.items (c.in-Some.other ∷ []) before.0) ∙ ap (λ (l : List WorkerSeat). l ++ before.0) (sym c.in-Some.ensures.items) ∙ before.1,
        more_whole before.0 c.loop-other.seat c.in-Some.other c.join.new.seat before.2 c.join.ensures.work c.join.ensures.apart,
      ),
    )
