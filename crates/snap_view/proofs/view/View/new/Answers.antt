use Rattle.snap_view.specs.laws.Histories.{rows_rise}
use Rattle.snap_view.proofs.view.View.new.Goals as goal

pub invariant_of-result : goal.invariant_of-result
invariant_of-result c = record {
  base_rises = rows_rise c.args.snapshot.now c.is_snapshot.ensures;
  own_rises = c.changes-changes.ensures.lawful.rising;
  indexes = c.requires;
}
