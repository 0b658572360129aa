use Rattle.std.proofs.Common.{◌+◌, ◌≤◌, length, arith, ap, Err}
use Rattle.geo_base.specs.declared.limits.TheConstants.{SCRIPT_BYTES}
use Rattle.world_script.specs.declared.script.Script.{Script}
use Rattle.world_script.specs.Script.{IsScript}
use Rattle.geogauss.proofs.ReadLemmas.{bytes-are, script-is, no-text, not-told}
use Rattle.geogauss.proofs.reading.take_script.Goals as goal

pub returns-in-Ok-read_script-clause-only : goal.returns-in-Ok-read_script-clause-only
returns-in-Ok-read_script-clause-only g c input script told spelled =
    let few : length c.in-Ok.bytes.items ≤ SCRIPT_BYTES + 1 = omega (arith, c.as_slice.ensures.len, c.in-Ok.ensures.few) in
    let short = λ (h : length c.in-Ok.bytes.items ≤ SCRIPT_BYTES). c.in-Ok.ensures.whole (omega (arith, c.as_slice.ensures.len)) in
    let bytes = bytes-are _ _ input _ told c.in-Ok.ensures.taken few short in
    c.in-Ok-read_script.ensures.only script (rw c.as_slice.ensures.value (script-is input _ script bytes spelled))

pub returns-in-Err-Script-clause-err : goal.returns-in-Err-Script-clause-err
returns-in-Err-Script-clause-err g c =
    let few : length c.in-Ok.bytes.items ≤ SCRIPT_BYTES + 1 = omega (arith, c.as_slice.ensures.len, c.in-Ok.ensures.few) in
    let short = λ (h : length c.in-Ok.bytes.items ≤ SCRIPT_BYTES). c.in-Ok.ensures.whole (omega (arith, c.as_slice.ensures.len)) in
    let is = rw c.as_slice.ensures.value at (c.in-Err-Script.ensures.fault c.in-Err-Script.fault (ap Err c.in-Err-Script.field-0-is)) in
    let none = λ (script : Script) (spelled : IsScript script c.in-Ok.bytes.items).
    not-told _ (c.in-Err-Script.ensures.only script (rw c.as_slice.ensures.value spelled)) c.in-Err-Script.field-0-is in
    no-text _ _ c.in-Ok.bytes.items c.in-Err-Script.fault c.in-Ok.ensures.taken few short is none
