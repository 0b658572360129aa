use Rattle.exec_kit.proofs.doing.do_delete.Goals as goal

pub apply_changes-requires : goal.apply_changes-requires
apply_changes-requires g c =
    c.changes_can_be_applied.ensures.delete c.args.query.now c.args.source.now.list.base c.args.own.now c.in_ok-changes.changes c.requires.base c.changes-changes.ensures.lawful.rising
    c.in_ok-changes.ensures.changes
