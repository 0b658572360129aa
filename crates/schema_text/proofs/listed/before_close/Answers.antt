use Rattle.std.proofs.Common.{ap, ◌∙◌, sym}
use Rattle.schema_text.specs.inner.Texts.{before_close}
use Rattle.schema_text.specs.laws.Closing.{closing}
use Rattle.schema_text.proofs.listed.before_close.Goals as goal

pub returns-then-is_close : goal.returns-then-is_close
returns-then-is_close c =
    let last = closing c.in_ok-last.before.now c.in_ok-last.last.now in
    ap before_close c.in_ok-last.ensures.cases.0 ∙ (last ∙ rw (sym c.is_close.ensures ∙ c.if-is_close.true))

pub returns-else-is_close : goal.returns-else-is_close
returns-else-is_close c =
    let last = closing c.in_ok-last.before.now c.in_ok-last.last.now in
    ap before_close c.in_ok-last.ensures.cases.0 ∙ (last ∙ rw (sym c.is_close.ensures ∙ c.if-is_close.false))
