use Rattle.std.proofs.Common.{◌≡◌, sym, ◌∙◌}
use Rattle.region_core.proofs.Insides.{holding}
use Rattle.region_core.proofs.Started.{may_hold, now_holds, went_well, opened_inside}
use Rattle.region_core.proofs.region.Region.open.Goals as goal

pub hold_all-requires-clause-of_log : goal.hold_all-requires-clause-of_log
hold_all-requires-clause-of_log g c =
    may_hold c.args.schema.now c.args.regions c.args.no c.new-inbox.result c.in_ok-log.log.items c.as_slice.result.now c.requires.there c.in_ok-log.ensures.of_log c.new-inbox.ensures
    c.as_slice.ensures.value

pub invariant_of-result : goal.invariant_of-result
invariant_of-result g c =
    let holds : c.hold_all.new.inbox ≡ holding c.args.regions c.in_ok-log.log.items =
    now_holds c.args.regions c.new-inbox.result c.hold_all.new.inbox c.in_ok-log.log.items c.as_slice.result.now
    (went_well c.hold_all.result (sym c.is_err.ensures.value ∙ c.if-is_err.false) c.hold_all.ensures) c.new-inbox.ensures c.as_slice.ensures.value in
    opened_inside c.args.no c.args.regions c.args.schema.now c.in-Ok.copy c.args.last c.in_ok-log.log.items c.hold_all.new.inbox c.new.result.items c.empty.result c.new-2.result.items
    c.in-Ok.ensures holds c.new.ensures.items c.empty.ensures c.new-2.ensures.items c.requires.few c.requires.there c.count-tables.ensures.schema c.requires.last c.in_ok-log.ensures.of_log
    c.empty-2.result c.empty-2.ensures.begins
