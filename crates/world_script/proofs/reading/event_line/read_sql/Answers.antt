use Rattle.std.proofs.Common.{◌≡◌, arith}
use Rattle.world_script.proofs.Pieces.{not_cut}
use Rattle.world_script.proofs.EventTexts.{region_cut, session_cut}
use Rattle.world_script.proofs.reading.event_line.read_sql.Goals as goal

pub returns-in_err-session-clause-only : goal.returns-in_err-session-clause-only
returns-in_err-session-clause-only c = λ region session statement of within.
    let first = region_cut c.args.line.now _ _ _ region session statement c.in_ok-rest.ensures c.in_ok-region.ensures.found of (omega arith) in
    absurd (not_cut _ 32 _ _ c.in_err-session.ensures.none first.1)

pub returns-in_err-region-2-clause-only : goal.returns-in_err-region-2-clause-only
returns-in_err-region-2-clause-only c = λ region session statement of within.
    let first = region_cut c.args.line.now _ _ _ region session statement c.in_ok-rest.ensures c.in_ok-region.ensures.found of (omega arith) in
    cc (c.in_err-region-2.ensures.only region within.0 first.0)

pub returns-in_err-session-2-clause-only : goal.returns-in_err-session-2-clause-only
returns-in_err-session-2-clause-only c = λ region session statement of within.
    let first = region_cut c.args.line.now _ _ _ region session statement c.in_ok-rest.ensures c.in_ok-region.ensures.found of (omega arith) in
    let second = session_cut _ _ _ session statement first.1 c.in_ok-session.ensures.found (omega arith) in
    cc (c.in_err-session-2.ensures.only session within.1 second.0)

pub returns-in_err-statement-clause-only : goal.returns-in_err-statement-clause-only
returns-in_err-statement-clause-only c = λ region session statement of within.
    let first = region_cut c.args.line.now _ _ _ region session statement c.in_ok-rest.ensures c.in_ok-region.ensures.found of (omega arith) in
    let second = session_cut _ _ _ session statement first.1 c.in_ok-session.ensures.found (omega arith) in
    cc (c.in_err-statement.ensures.only statement second.1 within.2)

pub returns-clause-only : goal.returns-clause-only
returns-clause-only c = λ region session statement of within.
    let first = region_cut c.args.line.now _ _ _ region session statement c.in_ok-rest.ensures c.in_ok-region.ensures.found of (omega arith) in
    let second = session_cut _ _ _ session statement first.1 c.in_ok-session.ensures.found (omega arith) in
    let is_region : c.in_ok-region-2.region ≡ region = cc (c.in_ok-region-2.ensures.only region within.0 first.0) in
    let is_session : c.in_ok-session-2.session ≡ session = cc (c.in_ok-session-2.ensures.only session within.1 second.0) in
    let is_statement : c.in_ok-statement.statement ≡ statement = cc (c.in_ok-statement.ensures.only statement second.1 within.2) in
    cc
