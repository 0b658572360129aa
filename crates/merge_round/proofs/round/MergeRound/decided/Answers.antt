use Rattle.std.proofs.Common.{sym, ◌∙◌}
use Rattle.merge_round.specs.Seats.{round_of}
use Rattle.merge_round.proofs.Whole.{first_is, none_unjudged, all_there, all_judged}
use Rattle.merge_round.proofs.round.MergeRound.decided.Goals as goal

pub returns-in-Some-clause-unjudged : goal.returns-in-Some-clause-unjudged
returns-in-Some-clause-unjudged g c =
    first_is (round_of c.args.self.now) c.args.seats.items c.gathered-verdicts.result.items c.count.result c.in-Some.number c.gathered-verdicts.ensures c.count.ensures (rw (sym c.deref.ensures.value) c.in-Some.ensures.some)

pub outcomes-requires : goal.outcomes-requires
outcomes-requires g c =
    c.deref-in-None.ensures.value ∙ all_there (round_of c.args.self.now) c.args.seats.items c.gathered-verdicts.result.items c.count.result c.gathered-verdicts.ensures c.count.ensures (rw (sym c.deref.ensures.value) c.in-None.ensures.none)

pub returns-clause-whole : goal.returns-clause-whole
returns-clause-whole g c =
    all_judged (round_of c.args.self.now) c.args.seats.items c.gathered-verdicts.result.items c.count.result c.gathered-verdicts.ensures c.count.ensures (rw (sym c.deref.ensures.value) c.in-None.ensures.none)

pub returns-in-Some-clause-all_given : goal.returns-in-Some-clause-all_given
returns-in-Some-clause-all_given g c = λ all late. absurd
    (none_unjudged (round_of c.args.self.now) c.args.seats.items c.gathered-verdicts.result.items c.in-Some.number c.gathered-verdicts.ensures
    (first_is (round_of c.args.self.now) c.args.seats.items c.gathered-verdicts.result.items c.count.result c.in-Some.number c.gathered-verdicts.ensures c.count.ensures (rw (sym c.deref.ensures.value) c.in-Some.ensures.some))
    all late)
