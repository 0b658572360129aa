use Rattle.std.proofs.Common.{◌∙◌, sym, ap, Err, inr}
use Rattle.std.proofs.lemmas.Result.{err_from_is_err_and}
use Rattle.world_script.proofs.TextLaws.{no_fault, one_script}
use Rattle.world_script.proofs.ScriptTexts.{script_of, event_fault, only_memory, same_script}
use Rattle.world_script.proofs.reading.read_script.Goals as goal

pub returns-in_err-regions-clause-only : goal.returns-in_err-regions-clause-only
returns-in_err-regions-clause-only c = λ script is.
    let bad = c.in_err-regions.ensures.fault in
    absurd (no_fault c.args.bytes.now script c.in_err-regions.field-0.0 is (inr (bad.0, c.if-bytes-gt-SCRIPT_BYTES.false, bad.1)))

pub returns-in_err-events-clause-only : goal.returns-in_err-events-clause-only
returns-in_err-events-clause-only c = λ script is.
    let p = err_from_is_err_and c.from_residual-in_err-events.result c.from_residual-in_err-events.ensures.1 in
    only_memory script _ p.0 p.1 (λ fault e. no_fault c.args.bytes.now script fault is (event_fault _ _ _ fault c.if-bytes-gt-SCRIPT_BYTES.false c.in_ok-regions.ensures.ok (c.in_err-events.ensures.fault fault (ap Err (sym p.2 ∙ e)))))

pub returns-in_err-events-clause-fault : goal.returns-in_err-events-clause-fault
returns-in_err-events-clause-fault c = λ fault is.
    let p = err_from_is_err_and c.from_residual-in_err-events.result c.from_residual-in_err-events.ensures.1 in
    event_fault _ _ _ fault c.if-bytes-gt-SCRIPT_BYTES.false c.in_ok-regions.ensures.ok (c.in_err-events.ensures.fault fault (cc (p.1, p.2, is)))

pub returns-clause-script : goal.returns-clause-script
returns-clause-script c = script_of _ _ _ c.if-bytes-gt-SCRIPT_BYTES.false c.in_ok-regions.ensures.ok c.in_ok-events.ensures.ok

pub returns-clause-only : goal.returns-clause-only
returns-clause-only c = λ script is.
    same_script _ script (one_script _ _ _ (script_of _ _ _ c.if-bytes-gt-SCRIPT_BYTES.false c.in_ok-regions.ensures.ok c.in_ok-events.ensures.ok) is)
