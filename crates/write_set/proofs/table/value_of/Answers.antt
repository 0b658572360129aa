use Rattle.std.proofs.Common.{sym}
use Rattle.write_set.proofs.Places.{lookup_here, lookup_absent}
use Rattle.write_set.proofs.table.value_of.Goals as goal

pub returns-in-Ok : goal.returns-in-Ok
returns-in-Ok g c = sym (lookup_here c.args.row.now c.args.entries.now c.in-Ok.place c.in-Ok.ensures.found c.index-entries-place.result)

pub returns-in-Err : goal.returns-in-Err
returns-in-Err g c = sym (lookup_absent c.args.row.now c.args.entries.now _ c.in-Err.ensures.absent)
