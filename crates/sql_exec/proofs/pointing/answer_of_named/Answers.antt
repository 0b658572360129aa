use Rattle.std.proofs.Common.{List, sym, ap, subst, ◌∙◌}
use Rattle.geo_base.specs.Results.{Gives}
use Rattle.geo_base.specs.declared.cell.Cell.{Cell}
use Rattle.row_source.specs.Sources.{listed}
use Rattle.row_source.specs.declared.fault.ExecFault.TheVariants as fault
use Rattle.sql_exec.proofs.pointing.answer_of_named.Goals as goal
use Rattle.sql_exec.specs.inner.Plain.{plain_answer}

pub returns-clause-answer : goal.returns-clause-answer
returns-clause-answer g c =
    let query = c.args.query.now in
    subst (λ (rows : List (List Cell)). Gives fault.NoMemory (λ (lines : List (List Cell)). lines) c.answer_of_found.result (plain_answer query.items query.limit query.tests rows))
    (ap listed c.get-found.ensures.image ∙ sym (c.names_are_of_one_row.ensures (g.R.RowSource.rows c.args.source.now) c.args.row.now c.get-found.ensures.rising)) c.answer_of_found.ensures
