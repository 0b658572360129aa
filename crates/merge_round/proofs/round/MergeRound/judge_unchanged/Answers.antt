use Rattle.std.proofs.Common.{ap, ◌∙◌}
use Rattle.claim_rule.specs.Plan.{final_of}
use Rattle.claim_rule.specs.Seats.{view_of}
use Rattle.merge_round.specs.Seats.{round_of}
use Rattle.merge_round.specs.inner.Entries.{first_above}
use Rattle.merge_round.proofs.Deciding.{entry_claim, entry_bounded, entry_large, entry_beaten, entry_committed}
use Rattle.merge_round.proofs.round.MergeRound.judge_unchanged.Goals as goal

pub word_of-requires : goal.word_of-requires
word_of-requires g c =
    let m = c.args.self.now in
    entry_claim (round_of m) m.held.claims c.args._number c.args.entry.now c.requires.entry

pub first_lost-requires-clause-rows : goal.first_lost-requires-clause-rows
first_lost-requires-clause-rows g c =
    let m = c.args.self.now in
    rw c.items.ensures (entry_bounded (round_of m) m.held.claims c.args._number c.args.entry.now c.requires.entry m.rows.keys m.table m.held.named m.held.tabled)

pub winner_of-requires : goal.winner_of-requires
winner_of-requires g c =
    let m = c.args.self.now in
    entry_large (round_of m) m.held.claims c.args._number c.args.entry.now c.requires.entry c.word_of.result c.in-Some.row c.in-Some.word (view_of c.args.seat.now).plan c.word_of.ensures (c.in-Some.ensures.first ∙ ap (λ rows. first_above (final_of (view_of c.args.seat.now).plan) c.word_of.result rows) c.items.ensures)

pub returns-in-Some-clause-verdict : goal.returns-in-Some-clause-verdict
returns-in-Some-clause-verdict g c =
    let m = c.args.self.now in
    entry_beaten (round_of m) m.held.claims c.args._number c.args.entry.now c.requires.entry (view_of c.args.seat.now).plan c.word_of.result c.requires.seat.planned c.word_of.ensures c.requires.unchanged
    c.in-Some.row c.in-Some.word c.winner_of.result (c.in-Some.ensures.first ∙ ap (λ rows. first_above (final_of (view_of c.args.seat.now).plan) c.word_of.result rows) c.items.ensures) c.winner_of.ensures

pub returns-in-None-clause-verdict : goal.returns-in-None-clause-verdict
returns-in-None-clause-verdict g c =
    let m = c.args.self.now in
    entry_committed (round_of m) m.held.claims c.args._number c.args.entry.now c.requires.entry (view_of c.args.seat.now).plan c.word_of.result c.requires.seat.planned c.word_of.ensures c.requires.unchanged
    (c.in-None.ensures.first ∙ ap (λ rows. first_above (final_of (view_of c.args.seat.now).plan) c.word_of.result rows) c.items.ensures)
