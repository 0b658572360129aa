use Rattle.std.proofs.Common.{◌≡◌, ◌∙◌, arith, ap, sym, Some}
use Rattle.world_script.proofs.Decimals.{behind_minus, negated}
use Rattle.world_script.proofs.reading.numbers.read_literal.Goals as goal

pub returns-in_err-number-clause-only : goal.returns-in_err-number-clause-only
returns-in_err-number-clause-only c = λ z literal spelled.
    let read = behind_minus z _ literal (sym c.in-Some.ensures ∙ spelled) in
    cc (c.in_err-number.ensures.only read.size read.few read.spelled)

pub returns-then-number-eq0-clause-only : goal.returns-then-number-eq0-clause-only
returns-then-number-eq0-clause-only c = λ z literal spelled.
    let read = behind_minus z _ literal (sym c.in-Some.ensures ∙ spelled) in
    let same : c.in_ok-number.number ≡ read.size = cc (c.in_ok-number.ensures.only read.size read.few read.spelled) in
    absurd (omega arith)

pub returns-else-number-eq0-clause-only : goal.returns-else-number-eq0-clause-only
returns-else-number-eq0-clause-only c = λ z literal spelled.
    let read = behind_minus z _ literal (sym c.in-Some.ensures ∙ spelled) in
    let same : c.in_ok-number.number ≡ read.size = cc (c.in_ok-number.ensures.only read.size read.few read.spelled) in
    ap Some (rw same (negated z _ read))
