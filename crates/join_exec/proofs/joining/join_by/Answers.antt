use Rattle.std.proofs.Common.{ℕ, ◌+◌, ◌≤◌, List, map, get_or, sym, ap, subst, ◌∙◌}
use Rattle.std.specs.List.{filter}
use Rattle.geo_base.specs.Results.{Gives}
use Rattle.geo_base.specs.declared.cell.Cell.{Cell}
use Rattle.join_exec.proofs.Kept.{Answer}
use Rattle.join_exec.specs.inner.Kept.{kept_behind, pairs_by}
use Rattle.row_source.specs.Sources.{images}
use Rattle.row_source.specs.declared.fault.ExecFault.TheVariants as exec
use Rattle.join_exec.proofs.Planned.{by_one, by_two, two_numbers}
use Rattle.row_source.specs.Bounds.{steps_of}
use Rattle.row_source.specs.Handing.{finds, reaches}
use Rattle.row_source.specs.Matches.{alone}
use Rattle.row_source.specs.declared.pair.Pair.{Pair}
use Rattle.join_exec.proofs.joining.join_by.Goals as goal

pub returns-then-tables-eq1-clause-pairs : goal.returns-then-tables-eq1-clause-pairs
returns-then-tables-eq1-clause-pairs g c =
    let tables = g.R.RowSource.tables c.args.source.now in
    let rows = g.R.RowSource.rows c.args.source.now in
    subst (λ (meant : Answer). Gives exec.NoMemory (λ _. c.join_one.new.kept.items) c.join_one.result meant)
    (ap (λ (done : List Pair). kept_behind c.args.tests.now done (map alone (images (filter (reaches tables (get_or c.args.tables.now 0 0) c.args.plan.now.first) rows)))) c.requires.none
    ∙ sym (by_one tables c.args.tables.now c.args.plan.now rows c.args.tests.now c.if-tables-eq1.true c.requires.leaves_out))
    c.join_one.ensures.pairs

pub returns-clause-pairs : goal.returns-clause-pairs
returns-clause-pairs g c =
    let tables = g.R.RowSource.tables c.args.source.now in
    let rows = g.R.RowSource.rows c.args.source.now in
    let plan = c.args.plan.now in
    let left : ℕ = get_or c.args.tables.now 0 0 in
    let right : ℕ = get_or c.args.tables.now 1 0 in
    subst (λ (meant : Answer). Gives exec.NoMemory (λ _. c.join_two.new.kept.items) c.join_two.result meant)
    (ap (λ (done : List Pair). kept_behind c.args.tests.now done
    (pairs_by (λ (cells : List Cell). images (filter (finds tables right plan.second cells) rows)) (images (filter (reaches tables left plan.first) rows)))) c.requires.none
    ∙ sym (by_two tables left right c.args.tables.now plan rows c.args.tests.now (two_numbers tables c.args.tables.now plan c.requires.fits c.if-tables-eq1.false) c.requires.leaves_out))
    c.join_two.ensures.pairs

pub returns-clause-steps : goal.returns-clause-steps
returns-clause-steps g c =
    let tables = g.R.RowSource.tables c.args.source.now in
    subst (λ (numbers : List ℕ). c.join_two.new.steps ≤ c.args.steps.now + steps_of tables numbers c.args.plan.now (g.R.RowSource.rows c.args.source.now))
    (two_numbers tables c.args.tables.now c.args.plan.now c.requires.fits c.if-tables-eq1.false) c.join_two.ensures.steps
