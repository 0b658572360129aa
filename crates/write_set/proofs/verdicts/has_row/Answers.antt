use Rattle.std.proofs.Common.{◌∙◌, ap}
use Rattle.std.specs.Option.{is_some}
use Rattle.write_set.proofs.Judging.{has_row_found, found_behind}
use Rattle.write_set.proofs.verdicts.has_row.Goals as goal

pub value_of-requires : goal.value_of-requires
value_of-requires c = rw c.changes.ensures.value c.changes.ensures.lawful.rising

pub returns : goal.returns
returns c =
    let set = c.args.c.now.candidate.now.set in
    let row = c.args.row.now in
    c.is_some.ensures ∙ found_behind c.value_of.result ∙ ap is_some (rw c.changes.ensures.value at c.value_of.ensures) ∙ has_row_found row set
