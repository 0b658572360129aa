use Rattle.std.proofs.Common.{subst}
use Rattle.exec_kit.proofs.doing.do_update.Goals as goal
use Rattle.row_source.specs.Sources.{AreRowsOf}

pub apply_changes-requires : goal.apply_changes-requires
apply_changes-requires g c =
    c.changes_can_be_applied.ensures.update c.args.schema.now c.args.query.now c.args.source.now.list.base c.args.own.now c.in_ok-changes.changes c.requires.query
    (subst (AreRowsOf c.args.schema.now) c.requires.laid c.requires.rows) c.in_ok-changes.ensures.changes
