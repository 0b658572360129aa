use Rattle.std.proofs.Common.{◌≡◌, sym, ◌∙◌}
use Rattle.region_core.proofs.Insides.{holding}
use Rattle.region_core.proofs.Started.{may_hold, now_holds, went_well, log_inside, started_is, started_inside}
use Rattle.region_core.proofs.region.Region.start.Goals as goal

pub hold_all-requires-clause-of_log : goal.hold_all-requires-clause-of_log
hold_all-requires-clause-of_log c =
    let a = c.self.inside in
    may_hold a.schema a.regions a.no c.new-inbox.result c.args.log.items c.as_slice.result.now c.self.invariant.lawful.stands.there
    (log_inside a c.self.invariant c.args.self.now c.self.view_is c.requires.down c.args.log.items c.requires.of_log) c.new-inbox.ensures c.as_slice.ensures.value

pub invariant_of-self : goal.invariant_of-self
invariant_of-self c =
    let a = c.self.inside in
    let holds : c.hold_all.new.inbox ≡ holding a.regions c.args.log.items =
    now_holds a.regions c.new-inbox.result c.hold_all.new.inbox c.args.log.items c.as_slice.result.now
    (went_well c.hold_all.result (sym c.is_err.ensures.value ∙ c.if-is_err.false) c.hold_all.ensures) c.new-inbox.ensures c.as_slice.ensures.value in
    started_inside a c.self.invariant c.args.self.now c.self.view_is c.requires.down c.args.log.items _
    (log_inside a c.self.invariant c.args.self.now c.self.view_is c.requires.down c.args.log.items c.requires.of_log) holds

pub returns-clause-ok : goal.returns-clause-ok
returns-clause-ok c =
    let a = c.self.inside in
    let holds : c.hold_all.new.inbox ≡ holding a.regions c.args.log.items =
    now_holds a.regions c.new-inbox.result c.hold_all.new.inbox c.args.log.items c.as_slice.result.now
    (went_well c.hold_all.result (sym c.is_err.ensures.value ∙ c.if-is_err.false) c.hold_all.ensures) c.new-inbox.ensures c.as_slice.ensures.value in
    started_is a c.self.invariant c.args.self.now c.self.view_is c.requires.down c.args.log.items _ holds
