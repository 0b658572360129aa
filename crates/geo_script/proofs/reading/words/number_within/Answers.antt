use Rattle.std.proofs.Common.{◌≡◌, true, sym, ap, ◌∙◌, arith, inl, inr}
use Rattle.std.specs.Result.{result_ok}
use Rattle.geo_script.specs.inner.Words.{is_numeral}
use Rattle.geo_script.proofs.Numerals.{no_numeral, parsed_none, parsed_within, parsed_outside}
use Rattle.geo_script.proofs.reading.words.number_within.Goals as goal

pub returns-then-not-is_numeral-clause-number : goal.returns-then-not-is_numeral-clause-number
returns-then-not-is_numeral-clause-number c = sym (no_numeral c.args.least c.args.most c.args.word.now (sym c.is_numeral.ensures ∙ c.if-not-is_numeral.true))

pub returns-in-Ok-clause-number : goal.returns-in-Ok-clause-number
returns-in-Ok-clause-number c =
    let numeral : is_numeral c.args.word.now ≡ true = sym c.is_numeral.ensures ∙ c.if-not-is_numeral.false in
    sym (parsed_within c.args.least c.args.most c.in-Ok.value c.args.word.now c.parse.result (omega (arith, c.ranges.most)) numeral c.parse.ensures.value.0 (ap result_ok c.in-Ok.is)
    c.if-least-value.true c.if-value-most.true)

pub returns-in_default-clause-number : goal.returns-in_default-clause-number
returns-in_default-clause-number c =
    let numeral : is_numeral c.args.word.now ≡ true = sym c.is_numeral.ensures ∙ c.if-not-is_numeral.false in
    sym (parsed_outside c.args.least c.args.most c.in-Ok.value c.args.word.now c.parse.result (omega (arith, c.ranges.most)) numeral c.parse.ensures.value.0 (ap result_ok c.in-Ok.is)
    (inr c.if-value-most.false))

pub returns-in_default-2-clause-number : goal.returns-in_default-2-clause-number
returns-in_default-2-clause-number c =
    let numeral : is_numeral c.args.word.now ≡ true = sym c.is_numeral.ensures ∙ c.if-not-is_numeral.false in
    sym (parsed_outside c.args.least c.args.most c.in-Ok.value c.args.word.now c.parse.result (omega (arith, c.ranges.most)) numeral c.parse.ensures.value.0 (ap result_ok c.in-Ok.is)
    (inl c.if-least-value.false))

pub returns-in_default-3-clause-number : goal.returns-in_default-3-clause-number
returns-in_default-3-clause-number c =
    let numeral : is_numeral c.args.word.now ≡ true = sym c.is_numeral.ensures ∙ c.if-not-is_numeral.false in
    sym (parsed_none c.args.least c.args.most c.args.word.now c.parse.result (omega (arith, c.ranges.most)) numeral c.parse.ensures.value.0 (ap result_ok c.in_default.is))
