use Rattle.std.proofs.Common.{◌+◌, arith}
use Rattle.std.proofs.lemmas.Bool.{false_from_ne_true}
use Rattle.std.proofs.lemmas.List.{take_rest}
use Rattle.geo_script.proofs.Cutting.{first_line, last_lines, last_answer}
use Rattle.geo_script.proofs.reading.lines.next_line.Goals as goal

pub returns-in-Some-clause-line : goal.returns-in-Some-clause-line
returns-in-Some-clause-line c =
    let bytes = c.args.bytes.now in
    let found = c.in-Some.ensures in
    rw (take_rest bytes (c.in-Some.at + 1), c.without_return.ensures.line)
    (first_line bytes c.in-Some.at found.0.high (λ k low. false_from_ne_true _ (found.0.before k (omega arith) low)) found.1)

pub returns-in-None-clause-line : goal.returns-in-None-clause-line
returns-in-None-clause-line c =
    let bytes = c.args.bytes.now in
    let lines = last_lines bytes (λ k low. false_from_ne_true _ (c.in-None.ensures k (omega arith) low)) in
    last_answer bytes c.last_line.result lines c.last_line.ensures.line c.last_line.ensures.some
