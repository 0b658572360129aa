use Rattle.std.proofs.Common.{◌≡◌, ◌∙◌, subst, sym, arith, IsUtf8}
use Rattle.std.proofs.lemmas.Fmt.{parse-decimal}
use Rattle.world_script.specs.inner.Reading.{IsPlain}
use Rattle.world_script.proofs.Decimals.{IsUtf8-decimal, parsed_plain, plain_decimal}
use Rattle.world_script.proofs.reading.numbers.read_number.Goals as goal
use Rattle.world_script.proofs.reading.numbers.read_number.Goals.{else-number-bound-via-then-number-bound+else-is_plain, else-number-bound-via-else-number-bound}

pub returns-in_default-clause-only : goal.returns-in_default-clause-only
returns-in_default-clause-only c =
    λ n below spelled. absurd (c.in_default.ensures.cases.0 (subst IsUtf8 (sym spelled) (IsUtf8-decimal n (omega arith))))

pub returns-in_default-parse-clause-only : goal.returns-in_default-parse-clause-only
returns-in_default-parse-clause-only c =
    λ n below spelled. cc (parse-decimal 64 n _ _ (omega arith) (omega arith) (c.in-Ok.ensures.cases.0 ∙ spelled) c.parse.ensures.value.0)

pub returns-then-is_plain-clause-found : goal.returns-then-is_plain-clause-found
returns-then-is_plain-clause-found c =
    let parses = rw c.in-Ok.ensures.cases.0 at c.parse.ensures.value.0 in
    (parsed_plain _ _ _ parses c.in-Ok-parse.is (c.is_plain.ensures.0 c.if-is_plain.true), c.if-number-bound.true)

pub returns-then-is_plain-clause-only : goal.returns-then-is_plain-clause-only
returns-then-is_plain-clause-only c =
    λ n below spelled. cc (parse-decimal 64 n _ _ (omega arith) (omega arith) (c.in-Ok.ensures.cases.0 ∙ spelled) c.parse.ensures.value.0)

pub returns-else-number-bound-clause-only : goal.returns-else-number-bound-clause-only
returns-else-number-bound-clause-only c = λ n below spelled.
    let read : c.in-Ok-parse.number ≡ n = cc (parse-decimal 64 n _ _ (omega arith) (omega arith) (c.in-Ok.ensures.cases.0 ∙ spelled) c.parse.ensures.value.0) in
    elim c.else-number-bound.branch [
      | else-number-bound-via-then-number-bound+else-is_plain w ↦ cc (w.is_plain.ensures.1 (subst IsPlain (sym spelled) (plain_decimal n (omega arith))))
      | else-number-bound-via-else-number-bound w ↦ absurd (omega arith)
    ]
