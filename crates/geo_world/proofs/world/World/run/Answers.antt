-- A session that waits is told so, and an idle one's statement is run.
use Rattle.std.proofs.Common.{sym, ◌∙◌}
use Rattle.std.proofs.lemmas.Result.{on_ok_weaker}
use Rattle.geo_world.proofs.Asking.{session-within, region-stands, session-is, waits-makes, runs-makes}
use Rattle.geo_world.proofs.world.World.run.Goals as goal

pub session_state-requires : goal.session_state-requires
session_state-requires c =
    session-within c.args.session c.index-region.result.now c.requires.stands.0 c.args.number
    (region-stands c.requires.stands.0 c.args.self.now c.args.number c.index-region.result.now c.requires.stands.1 c.requires.region c.index-region.ensures)
    c.requires.session

pub returns-in-Pending-clause-step : goal.returns-in-Pending-clause-step
returns-in-Pending-clause-step c = λ w s. on_ok_weaker c.print_session_waits.result
    (waits-makes w c.args.self.now c.args.number c.args.session c.args.statement c.in-Pending.ticket _ _ s
    (session-is w c.args.number c.args.session c.index-region.result.now _
    (region-stands w c.args.self.now c.args.number c.index-region.result.now s c.requires.region c.index-region.ensures)
    c.requires.session (sym c.in-Pending.is ∙ c.session_state.ensures)))
    c.print_session_waits.ensures

pub returns-in-Idle-clause-step : goal.returns-in-Idle-clause-step
returns-in-Idle-clause-step c = λ w s.
    let idle = session-is w c.args.number c.args.session c.index-region.result.now _
    (region-stands w c.args.self.now c.args.number c.index-region.result.now s c.requires.region c.index-region.ensures)
    c.requires.session (sym c.in-Idle.is ∙ c.session_state.ensures) in
    on_ok_weaker c.run_statement.result
    (runs-makes w c.run_statement.new.self c.args.number c.args.session c.args.statement _ _ idle)
    (c.run_statement.ensures.step w s idle)
