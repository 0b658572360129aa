use Rattle.std.proofs.Common.{◌≡◌, Bool, Option, List, length, sym, ap, ◌∙◌, subst, take_at}
use Rattle.std.specs.Prelude.{◌||◌}
use Rattle.merge_round.specs.declared.verdict.Verdict.{Verdict}
use Rattle.merge_round.specs.Seats.{round_of}
use Rattle.merge_round.specs.inner.Gathering.{TakesOver}
use Rattle.merge_round.proofs.JoinedSeats.{joined_worker}
use Rattle.merge_round.proofs.round.MergeRound.join.Goals as goal
use Rattle.merge_round.proofs.round.MergeRound.join.Goals.{then-seat, else-seat, then-seat-2, else-seat-2}

pub returns-clause-seat : goal.returns-clause-seat
returns-clause-seat g c =
    let claiming : c.if-seat.seat ≡ (c.args.seat.now.claims_over || c.args.other.claims_over) = elim c.if-seat.branch [
      | then-seat w ↦ w.seat-is ∙ w.if-seat.true ∙ ap (λ (b : Bool). b || c.args.other.claims_over) (sym w.if-seat.true)
      | else-seat w ↦ w.seat-is ∙ ap (λ (b : Bool). b || c.args.other.claims_over) (sym w.if-seat.false)
    ] in
    let judging : c.if-seat-2.seat ≡ (c.args.seat.now.judging_over || c.args.other.judging_over) = elim c.if-seat-2.branch [
      | then-seat-2 w ↦ w.seat-is ∙ w.if-seat-2.true ∙ ap (λ (b : Bool). b || c.args.other.judging_over) (sym w.if-seat-2.true)
      | else-seat-2 w ↦ w.seat-is ∙ ap (λ (b : Bool). b || c.args.other.judging_over) (sym w.if-seat-2.false)
    ] in
    let whole : length c.take_over.new.verdicts ≡ c.args.seat.now.verdicts.len = c.take_over.ensures.long ∙ c.deref_mut.ensures.len in
    let lent : TakesOver c.args.seat.now.verdicts.items c.args.other.verdicts.items c.take_over.new.verdicts =
    subst (λ (vs : List (Option Verdict)). TakesOver vs c.args.other.verdicts.items c.take_over.new.verdicts) c.deref_mut.ensures.value
    (subst (λ (vs : List (Option Verdict)). TakesOver c.deref_mut.result.now vs c.take_over.new.verdicts) c.deref.ensures.value c.take_over.ensures) in
    joined_worker (round_of c.args.self.now) c.args.seat.now c.args.other _ c.requires.seat c.requires.other c.join.ensures.seat c.join.ensures.view claiming judging
    (subst (TakesOver c.args.seat.now.verdicts.items c.args.other.verdicts.items) (sym (take_at c.take_over.new.verdicts _ _ whole)) lent)
