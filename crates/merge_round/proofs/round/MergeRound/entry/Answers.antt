use Rattle.merge_round.specs.Seats.{round_of}
use Rattle.merge_round.proofs.Deciding.{entry_at, entry_rows}
use Rattle.merge_round.proofs.round.MergeRound.entry.Goals as goal

pub returns-clause-is : goal.returns-clause-is
returns-clause-is g c =
    let m = c.args.self.now in
    entry_at (round_of m).all m.rows.keys m.entries.items c.args.number c.index.result.now m.held.named m.held.entered c.requires c.index.ensures

pub returns-clause-rows : goal.returns-clause-rows
returns-clause-rows g c =
    let m = c.args.self.now in
    entry_rows (round_of m).all c.args.number c.index.result.now
    (entry_at (round_of m).all m.rows.keys m.entries.items c.args.number c.index.result.now m.held.named m.held.entered c.requires c.index.ensures)
