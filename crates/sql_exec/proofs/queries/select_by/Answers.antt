use Rattle.std.proofs.Common.{◌≡◌, ℕ, List, [], ◌∷◌, Result, length, get_or, sym, ap, subst, ◌∙◌}
use Rattle.geo_base.specs.Results.{Gives}
use Rattle.geo_base.specs.declared.cell.Cell.{Cell}
use Rattle.row_source.specs.declared.fault.ExecFault.{ExecFault}
use Rattle.row_source.specs.declared.fault.ExecFault.TheVariants as fault
use Rattle.sql_exec.proofs.Planned.{planned, the_table}
use Rattle.sql_exec.proofs.queries.select_by.Goals as goal

pub reached_answer-requires-clause-plain : goal.reached_answer-requires-clause-plain
reached_answer-requires-clause-plain g c = (c.requires.query.not_grouped c.requires.ungrouped).1

pub returns-clause-answer : goal.returns-clause-answer
returns-clause-answer g c =
    let tables = g.R.RowSource.tables c.args.source.now in
    let rows = g.R.RowSource.rows c.args.source.now in
    let query = c.args.query.now in
    let number : ℕ = get_or c.items.result.now 0 0 in
    let one : query.tables ≡ number ∷ [] = sym c.items.ensures ∙ the_table c.items.result.now 0 (ap length c.items.ensures ∙ c.requires.one) in
    subst (λ (answer : Result (List (List Cell)) ExecFault). Gives fault.NoMemory (λ (lines : List (List Cell)). lines) c.reached_answer.result answer)
    (sym (planned tables query c.args.plan number rows one c.requires.ungrouped c.requires.unordered c.requires.leaves_out)) c.reached_answer.ensures.answer
