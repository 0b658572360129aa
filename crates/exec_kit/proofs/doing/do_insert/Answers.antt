use Rattle.exec_kit.proofs.doing.do_insert.Goals as goal

pub apply_changes-requires : goal.apply_changes-requires
apply_changes-requires c =
    c.changes_can_be_applied.ensures.insert c.args.schema.now c.args.query.now c.args.source.now.list.base c.args.own.now c.in_ok-changes.changes c.count-count.ensures.schema c.requires
    c.in_ok-changes.ensures
