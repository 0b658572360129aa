use Rattle.std.proofs.Common.{ap, sym, ◌∙◌, ◌++◌, ◌∷◌, [], List, map, take}
use Rattle.std.proofs.lemmas.Option.{same_Some}
use Rattle.geo_base.specs.declared.outcome.Outcome.{Outcome}
use Rattle.merge_round.specs.Rounds.{outcome_in}
use Rattle.merge_round.specs.Seats.{round_of}
use Rattle.merge_round.proofs.Outcomes.{turn_of, some_is}
use Rattle.merge_round.proofs.round.MergeRound.outcomes.Goals as goal

pub unwrap-verdict-requires : goal.unwrap-verdict-requires
unwrap-verdict-requires g c =
    let turn = turn_of (round_of c.args.self.now) c.args.verdicts.now c.loop-found.found-index c.requires c.loop-found-test.true in
    some_is _ turn.verdict turn.is

pub outcome-requires : goal.outcome-requires
outcome-requires g c =
    let turn = turn_of (round_of c.args.self.now) c.args.verdicts.now c.loop-found.found-index c.requires c.loop-found-test.true in
    (turn.outcome, turn.named, turn.numbers ∙ same_Some _ _ (sym turn.is ∙ c.unwrap-verdict.ensures))

pub loop-found-preserved : goal.loop-found-preserved
loop-found-preserved g c =
    let turn = turn_of (round_of c.args.self.now) c.args.verdicts.now c.loop-found.found-index c.requires c.loop-found-test.true in
    c.in_ok-push.ensures.items ∙ ap (λ (l : List Outcome). l ++ c.in_ok-outcome.field-0 ∷ []) c.loop-found.invariant
    ∙ ap (λ (o : Outcome). map (outcome_in (round_of c.args.self.now)) (take c.loop-found.found-index (round_of c.args.self.now).all) ++ o ∷ [])
    (c.in_ok-outcome.ensures turn.outcome turn.named (turn.numbers ∙ same_Some _ _ (sym turn.is ∙ c.unwrap-verdict.ensures)))
    ∙ sym turn.more
