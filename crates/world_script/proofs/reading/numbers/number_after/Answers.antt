use Rattle.std.proofs.Common.{◌∙◌, sym, arith, decimal}
use Rattle.std.proofs.lemmas.List.{append_cancel_left}
use Rattle.world_script.proofs.reading.numbers.number_after.Goals as goal

pub returns-in_err-number-clause-only : goal.returns-in_err-number-clause-only
returns-in_err-number-clause-only c = λ n below spelled.
    let digits = append_cancel_left c.args.word.now c.in_ok-digits.digits.now (decimal n) (sym c.in_ok-digits.ensures ∙ spelled) in
    cc (c.in_err-number.ensures.only n (omega arith) digits)

pub returns-clause-only : goal.returns-clause-only
returns-clause-only c = λ n below spelled.
    let digits = append_cancel_left c.args.word.now c.in_ok-digits.digits.now (decimal n) (sym c.in_ok-digits.ensures ∙ spelled) in
    cc (c.in_ok-number.ensures.only n (omega arith) digits)
