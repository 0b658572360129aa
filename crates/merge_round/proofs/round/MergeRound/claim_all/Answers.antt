use Rattle.std.proofs.Common.{ℕ, map, sym, ap, ◌∙◌}
use Rattle.claim_rule.specs.Plan.{piece_of}
use Rattle.claim_rule.specs.Seats.{view_of}
use Rattle.merge_round.specs.Seats.{round_of}
use Rattle.merge_round.specs.inner.Entries.{claims_made}
use Rattle.merge_round.proofs.Deciding.{entry_claim, entry_planned, entry_unplanned, none_made}
use Rattle.merge_round.proofs.round.MergeRound.claim_all.Goals as goal

pub word_of-requires : goal.word_of-requires
word_of-requires g c =
    let m = c.args.self.now in
    entry_claim (round_of m) m.held.claims c.args.number c.entry-entry.result.now c.entry-entry.ensures.is

pub claim_rows-requires-clause-planned : goal.claim_rows-requires-clause-planned
claim_rows-requires-clause-planned g c =
    let m = c.args.self.now in
    rw c.items.ensures (entry_planned (round_of m) m.held.claims c.args.number c.entry-entry.result.now c.entry-entry.ensures.is
    (view_of c.args.seat.now).plan c.word_of.result c.requires.planned c.word_of.ensures c.in-None.ensures)

pub returns-in-Some-clause-view : goal.returns-in-Some-clause-view
returns-in-Some-clause-view g c =
    let m = c.args.self.now in
    none_made _ (view_of c.args.seat.now)
    (entry_unplanned (round_of m) m.held.claims c.args.number c.entry-entry.result.now c.entry-entry.ensures.is _ c.in-Some.ensures)

pub returns-in-None-clause-view : goal.returns-in-None-clause-view
returns-in-None-clause-view g c =
    let m = c.args.self.now in
    c.claim_rows.ensures.view ∙ ap (λ rows. claims_made (map {A = ℕ} {B = ℕ × ℕ} (λ row. (row, c.word_of.result)) rows) (view_of c.args.seat.now)) c.items.ensures
    ∙ sym (ap (λ pairs. claims_made pairs (view_of c.args.seat.now))
    (ap (λ plan. piece_of plan c.args.number) (sym c.requires.planned) ∙ entry_planned (round_of m) m.held.claims c.args.number c.entry-entry.result.now c.entry-entry.ensures.is
    (view_of c.args.seat.now).plan c.word_of.result c.requires.planned c.word_of.ensures c.in-None.ensures))
